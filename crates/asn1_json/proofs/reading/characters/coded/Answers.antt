use Rattle.std.proofs.Common.{◌≡◌, ◌∙◌, ap, sym, ℕ, List, [], ◌++◌, append-nil, length, arith}
use Rattle.std.specs.Str.{chars}
use Rattle.std.proofs.lemmas.Str.{chars-nil}
use Rattle.std.proofs.lemmas.List.{nil_from_length}
use Rattle.std.proofs.lemmas.Bool.Decides.{nat_tests}
use Rattle.x690.specs.Characters.{code_of}
use Rattle.asn1_json.proofs.reading.characters.coded.Goals as goal

pub returns : goal.returns
returns g c =
    let f = g.C.CharacterCode.octets_of in
    let octets = c.loop-rest.octets.items in
    let empty : length c.loop-rest.rest.now ≡ 0 = grind (arith, nat_tests) in
    let behind : code_of f (chars c.loop-rest.rest.now) ≡ [] =
    ap (λ (s : List ℕ). code_of f (chars s)) (nil_from_length c.loop-rest.rest.now empty) ∙ ap (λ (cs : List ℕ). code_of f cs) chars-nil in
    sym (append-nil octets) ∙ ap (λ (l : List ℕ). octets ++ l) (sym behind) ∙ c.loop-rest.invariant.1
