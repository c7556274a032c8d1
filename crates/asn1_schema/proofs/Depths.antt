-- Answers to a depth, and the depths at which they hold.
use Rattle.std.proofs.Common.{◌≡◌, ◌≢◌, refl, sym, subst, ℕ, ◌-◌, ◌≤◌, arith}
use Rattle.std.specs.Prelude.{Result, Ok, Err}
use Rattle.asn1_schema.specs.declared.fault.Fault.{Fault}
use Rattle.asn1_schema.specs.declared.fault.Fault.TheVariants as faults
use Rattle.asn1_schema.specs.Reading.{UnlessMemory, FaultHolds, HoldsAt, Admits}

pub unless : (e : Fault) (P Q : Type 0) → (P → Q) → UnlessMemory e P → UnlessMemory e Q
unless faults.Memory P Q f a = tt
unless faults.Refused P Q f a = f a
unless faults.TooDeep P Q f a = f a

pub told : (e : Fault) → (e ≡ faults.Memory → ⊥) → (P : Type 0) → UnlessMemory e P → P
told faults.Memory other P a = absurd (other refl)
told faults.Refused other P a = a
told faults.TooDeep other P a = a

pub where_memory : (e : Fault) (P : Type 0) → e ≡ faults.Memory → UnlessMemory e P
where_memory e P is = subst (λ (z : Fault). UnlessMemory z P) (sym is) tt

-- what is judged of the one is judged of the other
pub admits_map : {T : Type 0} (P Q : Type 0) → (P → Q) → (Q → P) → (r : Result T Fault) → Admits P r → Admits Q r
admits_map P Q f g (Ok x) a = f a
admits_map P Q f g (Err e) a = unless e (P → ⊥) (Q → ⊥) (λ n q. n (g q)) a

pub fault_least : (depth : ℕ) (e : Fault) (d : ℕ) → FaultHolds depth e d → depth ≤ d
fault_least depth faults.Memory d h = h
fault_least depth faults.Refused d h = h
fault_least depth faults.TooDeep d h = omega (arith, h)

pub fault_within : (depth : ℕ) (e : Fault) (d : ℕ) → depth ≢ 0 → FaultHolds depth e d → FaultHolds (depth - 1) e (d - 1)
fault_within depth faults.Memory d some h = omega (arith, h)
fault_within depth faults.Refused d some h = omega (arith, h)
fault_within depth faults.TooDeep d some h = omega (arith, h)

pub fault_here : (depth : ℕ) (e : Fault) → FaultHolds depth e depth
fault_here depth faults.Memory = omega arith
fault_here depth faults.Refused = omega arith
fault_here depth faults.TooDeep = omega arith

-- at no depth that is less
pub least : {T : Type 0} (depth : ℕ) (r : Result T Fault) (d : ℕ) → HoldsAt depth r d → depth ≤ d
least depth (Ok x) d h = h
least depth (Err e) d h = fault_least depth e d h

-- so within an element
pub within : {T : Type 0} (depth : ℕ) (r : Result T Fault) (d : ℕ) → depth ≢ 0 → HoldsAt depth r d →
    HoldsAt (depth - 1) r (d - 1)
within depth (Ok x) d some h = omega (arith, h)
within depth (Err e) d some h = fault_within depth e d some h

pub here : {T : Type 0} (depth : ℕ) (r : Result T Fault) → HoldsAt depth r depth
here depth (Ok x) = omega arith
here depth (Err e) = fault_here depth e
