-- Messages of errors.
use Rattle.std.specs.Prelude.{ℕ, List, ◌++◌, codes, decimal}
use Rattle.asn1_engine.specs.declared.documents.DocumentError.{DocumentError}
use Rattle.asn1_engine.specs.declared.documents.DocumentError.TheVariants as document_errors
use Rattle.asn1_engine.specs.declared.error.RunError.{RunError}
use Rattle.asn1_engine.specs.declared.error.RunError.TheVariants as run_errors
use Rattle.asn1_engine.specs.declared.pem.PemError.{PemError}
use Rattle.asn1_engine.specs.declared.pem.PemError.TheVariants as pem_errors

abbrev pub run_error_text : RunError → List ℕ
run_error_text run_errors.Output = codes "output failed"
run_error_text run_errors.OutOfMemory = codes "out of memory"

-- the number of the line that a message speaks of, and what is wrong
abbrev pub pem_error_text : PemError → List ℕ
pem_error_text (pem_errors.NoEnd line) = codes "line " ++ decimal line ++ codes ": the block has no line of END"
pem_error_text (pem_errors.WrongEnd line) = codes "line " ++ decimal line ++ codes ": END with another label"
pem_error_text (pem_errors.NoBase64 line) = codes "line " ++ decimal line ++ codes ": the block is no base64"
pem_error_text (pem_errors.Encrypted line) = codes "line " ++ decimal line ++ codes ": the block is encrypted"
pem_error_text pem_errors.OutOfMemory = codes "out of memory"

abbrev pub document_error_text : DocumentError → List ℕ
document_error_text document_errors.Empty = codes "the file is empty"
document_error_text (document_errors.Pem error) = pem_error_text error
document_error_text document_errors.NoBlock = codes "no block of PEM"
document_error_text document_errors.NoHexadecimal = codes "no hexadecimal"
document_error_text document_errors.NoBase64 = codes "no base64"
document_error_text document_errors.OutOfMemory = codes "out of memory"
