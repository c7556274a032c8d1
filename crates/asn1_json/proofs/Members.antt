-- The members of objects by their names.
use Rattle.std.proofs.Common.{◌≡◌, ◌∙◌, ap, sym, refl, subst, ℕ, suc, ◌+◌, ◌<◌, length, take, drop, get_or, arith, if◌then◌else◌, Bool, true, false, List, [], ◌∷◌, ◌++◌, map, Option, Some, None, cond, MatchOption}
use Rattle.std.proofs.lemmas.List.{map-append, take_more, drop_more}
use Rattle.std.specs.Borrow.{Bor}
use Rattle.std.specs.Str.{bytes_eq}
use Rattle.json.specs.Json.{Json}
use Rattle.json.specs.Find.{get_member, later_or}
use Rattle.json.specs.Value.{members_of, members_view, value_view}
use Rattle.json.specs.declared.value.Value.{Value}
use Rattle.asn1_json.specs.DenotedLeaves.{count_members}
use Rattle.asn1_json.specs.Denotes.{arm_from}
use Rattle.asn1_json.specs.Tokens.{Types, name_of_arm}

later_none : (o : Option Json) → later_or o None ≡ o
later_none None = refl
later_none (Some j) = refl

later_assoc : (x g c : Option Json) → later_or (later_or x g) c ≡ later_or x (later_or g c)
later_assoc None g c = refl
later_assoc (Some j) g c = refl

-- one member more
last_member : (name : List ℕ) (ms : List (Bor (List ℕ) × Json)) (m : Bor (List ℕ) × Json) →
    get_member name (members_of (ms ++ m ∷ [])) ≡
    later_or (cond (bytes_eq m.0.now name) (Some m.1) None) (get_member name (members_of ms))
last_member name [] m = sym (later_none (cond (bytes_eq m.0.now name) (Some m.1) None))
last_member name (k ∷ ms) m =
    ap (λ (o : Option Json). later_or o (cond (bytes_eq k.0.now name) (Some k.1) None)) (last_member name ms m)
    ∙ later_assoc (cond (bytes_eq m.0.now name) (Some m.1) None) (get_member name (members_of ms)) (cond (bytes_eq k.0.now name) (Some k.1) None)

module _ {A : Type 0} (name : List ℕ) (members : List (Bor (List ℕ) × Value A)) (i : ℕ) (d : Bor (List ℕ) × Value A) (lt : i < length members) where
  more_members : get_member name (members_view (take (i + 1) members)) ≡
      later_or (cond (bytes_eq (get_or members i d).0.now name) (Some (value_view (get_or members i d).1)) None)
      (get_member name (members_view (take i members)))
  more_members =
      let h : Bor (List ℕ) × Value A → Bor (List ℕ) × Json = λ m. (m.0, value_view m.1) in
      ap (λ (l : List (Bor (List ℕ) × Value A)). get_member name (members_view l)) (take_more members i d lt)
      ∙ ap (λ (l : List (Bor (List ℕ) × Json)). get_member name (members_of l)) (map-append h (take i members) (get_or members i d ∷ []))
      ∙ last_member name (map h (take i members)) (h (get_or members i d))

  -- it has the name
  pub member_here : (x : Bor (List ℕ) × Value A) → x ≡ get_or members i d → bytes_eq x.0.now name ≡ true →
      get_member name (members_view (take (i + 1) members)) ≡ Some (value_view x.1)
  member_here x is e = more_members
      ∙ ap (λ (m : Bor (List ℕ) × Value A). later_or (cond (bytes_eq m.0.now name) (Some (value_view m.1)) None) (get_member name (members_view (take i members)))) (sym is)
      ∙ ap (λ (b : Bool). later_or (cond b (Some (value_view x.1)) None) (get_member name (members_view (take i members)))) e

  -- it has another
  pub member_other : (x : Bor (List ℕ) × Value A) → x ≡ get_or members i d → bytes_eq x.0.now name ≡ false →
      get_member name (members_view (take (i + 1) members)) ≡ get_member name (members_view (take i members))
  member_other x is e = more_members
      ∙ ap (λ (m : Bor (List ℕ) × Value A). later_or (cond (bytes_eq m.0.now name) (Some (value_view m.1)) None) (get_member name (members_view (take i members)))) (sym is)
      ∙ ap (λ (b : Bool). later_or (cond b (Some (value_view x.1)) None) (get_member name (members_view (take i members)))) e

module _ (types : Types) (choice : ℕ) (key : List ℕ) (arms : List ℕ) (i : ℕ) (lt : i < length arms) where
  -- the arm has the name
  pub arm_here : bytes_eq (name_of_arm types (Some choice) i) key ≡ true → arm_from types choice key (drop i arms) i ≡ Some i
  arm_here e = ap (λ (l : List ℕ). arm_from types choice key l i) (drop_more arms i 0 lt)
      ∙ ap (λ (b : Bool). if b then Some i else arm_from types choice key (drop (i + 1) arms) (suc i)) e

  -- it has another
  pub arm_later : bytes_eq (name_of_arm types (Some choice) i) key ≡ false →
      arm_from types choice key (drop (i + 1) arms) (i + 1) ≡ arm_from types choice key (drop i arms) i
  arm_later e =
      let next : i + 1 ≡ suc i = omega arith in
      ap (arm_from types choice key (drop (i + 1) arms)) next
      ∙ sym (ap (λ (l : List ℕ). arm_from types choice key l i) (drop_more arms i 0 lt)
      ∙ ap (λ (b : Bool). if b then Some i else arm_from types choice key (drop (i + 1) arms) (suc i)) e)

-- how many members there are
pub members_counted : {A : Type 0} (ms : List (Bor (List ℕ) × Value A)) → count_members (members_view ms) ≡ length ms
members_counted [] = refl
members_counted (m ∷ ms) = ap suc (members_counted ms)
