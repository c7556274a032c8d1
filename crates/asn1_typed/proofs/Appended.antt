-- Texts that are appended one after the other.
use Rattle.std.proofs.Common.{◌≡◌, ℕ, List, ◌++◌, ap, ◌∙◌, append_assoc, refl, sym}

pub two : (t a b x y : List ℕ) → x ≡ t ++ a → y ≡ x ++ b → y ≡ t ++ (a ++ b)
two t a b x y e f = f ∙ ap (λ l. l ++ b) e ∙ append_assoc t a b

pub three : (t a b c x y z : List ℕ) → x ≡ t ++ a → y ≡ x ++ b → z ≡ y ++ c → z ≡ t ++ (a ++ b ++ c)
three t a b c x y z e f g = two t (a ++ b) c y z (two t a b x y e f) g

pub four : (t a b c d w x y z : List ℕ) → w ≡ t ++ a → x ≡ w ++ b → y ≡ x ++ c → z ≡ y ++ d →
    z ≡ t ++ (a ++ b ++ c ++ d)
four t a b c d w x y z e f g h = two t (a ++ b ++ c) d y z (three t a b c w x y e f g) h

-- the last two at once
pub with_pair : (t a b c d x y z : List ℕ) → x ≡ t ++ a → y ≡ x ++ b → z ≡ y ++ (c ++ d) → z ≡ t ++ (a ++ b ++ c ++ d)
with_pair t a b c d x y z e f g = four t a b c d x y (y ++ c) z e f refl (g ∙ sym (append_assoc y c d))
