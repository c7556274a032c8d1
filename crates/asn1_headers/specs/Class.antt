-- Classes and their numbers (X.690 8.1.2.2).
use Rattle.std.specs.Prelude.{◌≡◌, ◌≤◌, ℕ, List, codes, Result, Ok, Err}
use Rattle.asn1_headers.specs.declared.class.Class.{Class}
use Rattle.asn1_headers.specs.declared.class.Class.TheVariants.{Universal, Application, ContextSpecific, Private}

-- the number that bits 8 and 7 of the identifier octets say
abbrev pub class_number : Class → ℕ
class_number Universal = 0
class_number Application = 1
class_number ContextSpecific = 2
class_number Private = 3

-- the name of a class as it is shown
abbrev pub class_text : Class → List ℕ
class_text Universal = codes "UNIVERSAL"
class_text Application = codes "APPLICATION"
class_text ContextSpecific = codes "CONTEXT-SPECIFIC"
class_text Private = codes "PRIVATE"

-- the class with the number, and a refusal where there is none
abbrev pub ClassOf : {E : Type 0} → ℕ → Result Class E → Type 0
ClassOf n (Ok class) = n ≡ class_number class
ClassOf n (Err e) = 4 ≤ n
