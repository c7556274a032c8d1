-- What a writer has gained in two steps.
use Rattle.std.proofs.Common.{ℕ, List, [], ◌++◌, Option, Some, None, ap, sym, ◌∙◌, append_assoc}
use Rattle.std.proofs.lemmas.List.{append-nil}
use Rattle.std.specs.Io.KnownBytes.{Appends}

pub nothing_told : (told : Option (List ℕ)) → Appends told told []
nothing_told None = tt
nothing_told (Some xs) = sym (append-nil xs)

pub told_twice : (first second third : Option (List ℕ)) (text more : List ℕ) → Appends first second text →
    Appends second third more → Appends first third (text ++ more)
told_twice None second third text more h k = tt
told_twice (Some xs) None third text more h k = absurd h
told_twice (Some xs) (Some ys) None text more h k = absurd k
told_twice (Some xs) (Some ys) (Some zs) text more h k = k ∙ ap (λ l. l ++ more) h ∙ append_assoc xs text more
