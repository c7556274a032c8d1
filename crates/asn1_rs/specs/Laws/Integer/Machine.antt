-- Machine integers are lawful.
use Rattle.std.specs.Prelude.{ℕ}
use Rattle.x690.specs.Laws.Integers.Unsigned.{unsigned_octets_content}
use Rattle.x690.specs.Laws.Signed.{signed_octets_content}
use Rattle.asn1_rs.specs.Integer.Machine.{Machine, IsLawfulMachine, machine_reading, unsigned_machine, signed_machine}
use Rattle.asn1_rs.specs.LeafReading.{IsExactReading}
use Rattle.asn1_rs.specs.Laws.Integer.{integer_checks, integer_lawful, integer_converts}
use Rattle.asn1_rs.specs.Laws.Integer.Unsigned.{unsigned_refused}
use Rattle.asn1_rs.specs.Laws.Integer.Signed.{signed_refused}

-- Machine integers without a sign are lawful.
pub unsigned_lawful : (size : ℕ) → IsLawfulMachine (unsigned_machine size)
unsigned_lawful size = record {
  one = λ x y e. cc;
  content = unsigned_octets_content;
  refused = unsigned_refused size;
  asks_no_memory = λ c h. h;
}

-- Machine integers with a sign are lawful.
pub signed_lawful : (size : ℕ) → IsLawfulMachine (signed_machine size)
signed_lawful size = record {
  one = λ x y e. e;
  content = signed_octets_content;
  refused = signed_refused size;
  asks_no_memory = λ c h. let e = h.1 in cc;
}

-- Reading a lawful machine integer is exact.
pub machine_exact : {T : Type 0} (M : Machine T) → IsLawfulMachine M → IsExactReading (machine_reading M)
machine_exact M l = record {
  lawful = integer_lawful M.Holds M.number;
  checked = integer_checks;
  converts = integer_converts M.Holds M.number M.refuses l.refused l.asks_no_memory;
}
