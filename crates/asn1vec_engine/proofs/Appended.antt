-- What is appended in turn.
use Rattle.std.proofs.Common.{ℕ, List, [], ◌++◌, None, Some, Option, sym, ap, ◌∙◌, append_assoc, append-nil, Result, Ok}
use Rattle.std.proofs.Common.{Err, OnErr}
use Rattle.std.specs.Io.KnownBytes.{Appends}

pub appends_none : (a : Option (List ℕ)) → Appends a a []
appends_none None = tt
appends_none (Some x) = sym (append-nil x)

pub appends_both : (a b c : Option (List ℕ)) (bs cs : List ℕ) → Appends a b bs → Appends b c cs → Appends a c (bs ++ cs)
appends_both None b c bs cs p q = tt
appends_both (Some x) None c bs cs p q = absurd p
appends_both (Some x) (Some y) None bs cs p q = absurd q
appends_both (Some x) (Some y) (Some z) bs cs p q = q ∙ ap (λ l. l ++ cs) p ∙ append_assoc x bs cs

pub on_err : {T E P : Type 0} (r : Result T E) → P → OnErr r P
on_err (Ok x) p = tt
on_err (Err e) p = p
