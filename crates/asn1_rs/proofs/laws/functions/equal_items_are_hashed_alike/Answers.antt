use Rattle.asn1_rs.proofs.laws.functions.equal_items_are_hashed_alike.Goals as goal

pub returns : goal.returns
returns g c x y e = g.met.T.Hash.respects_eq x y ((g.met.T.LawfulMember.same x y).1 e)
