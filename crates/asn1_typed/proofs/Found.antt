-- One more type is looked at.
use Rattle.std.proofs.Common.{◌≡◌, ℕ, Bool, true, false, List, [], ◌∷◌, ◌++◌, refl, ap, ◌∙◌, filter, cond, take, length, slice_index_or, sym, ◌<◌, ◌+◌}
use Rattle.std.proofs.Math.Numerals.{suc-eq-add-one}
use Rattle.std.proofs.Math.Seq.{take-suc}
use Rattle.std.proofs.lemmas.List.{append-nil}
use Rattle.std.proofs.lemmas.List.Elements.{filter-append}
use Rattle.asn1_module.specs.declared.modules.ModuleType.{ModuleType}
use Rattle.asn1_typed.specs.declared.sought.Sought.{Sought}
use Rattle.asn1_typed.specs.declared.sought.TypeName.{TypeName}
use Rattle.asn1_typed.specs.Sought.{and_at, bears, the_one, sought}

one_more : (types : List ModuleType) (named : ModuleType) → the_one (types ++ named ∷ []) ≡ and_at (the_one types) named.of
one_more [] named = refl
one_more (first ∷ []) named = refl
one_more (first ∷ second ∷ others) named = refl

filtered : (p : ModuleType → Bool) (types : List ModuleType) (named : ModuleType) (b : Bool) → p named ≡ b →
    filter p (types ++ named ∷ []) ≡ filter p types ++ cond b (named ∷ []) []
filtered p types named b e =
    filter-append p types (named ∷ []) ∙ ap (λ c. filter p types ++ cond c (named ∷ []) []) e

-- one that has the name
pub sought_more : (name : TypeName) (types : List ModuleType) (named : ModuleType) → bears name named ≡ true →
    sought name (types ++ named ∷ []) ≡ and_at (sought name types) named.of
sought_more name types named e =
    ap the_one (filtered (bears name) types named true e) ∙ one_more (filter (bears name) types) named

-- one that has not
pub sought_same : (name : TypeName) (types : List ModuleType) (named : ModuleType) → bears name named ≡ false →
    sought name (types ++ named ∷ []) ≡ sought name types
sought_same name types named e =
    ap the_one (filtered (bears name) types named false e ∙ append-nil (filter (bears name) types))

-- the next one has the name
pub found_more : (name : TypeName) (types : List ModuleType) (i : ℕ) (d : ModuleType) (found : Sought) → i < length types →
    bears name (slice_index_or types i d) ≡ true → found ≡ sought name (take i types) →
    and_at found (slice_index_or types i d).of ≡ sought name (take (i + 1) types)
found_more name types i d found inside e is =
    ap (λ f. and_at f (slice_index_or types i d).of) is ∙
    sym (sought_more name (take i types) (slice_index_or types i d) e) ∙
    ap (sought name) (sym (take-suc types i d inside)) ∙ ap (λ n. sought name (take n types)) (suc-eq-add-one i)
