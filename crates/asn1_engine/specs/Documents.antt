-- Documents: what a file holds, by the form that it is read in.
use Rattle.std.specs.Prelude.{ℕ, ◌≡◌, ◌≢◌, ◌⊎◌, true, false, List, [], ◌∷◌, ◌++◌, Option, Some, None, Ok, codes, decimal, map}
use Rattle.std.specs.Prelude.{string_bytes}
use Rattle.std.specs.Option.{option_map}
use Rattle.base64.specs.Engines.{standard}
use Rattle.base64.specs.GeneralPurpose.{encode_of}
use Rattle.hex.specs.Hex.{decode_of}
use Rattle.asn1_engine.specs.declared.documents.Document.{Document}
use Rattle.asn1_engine.specs.declared.documents.DocumentError.{DocumentError}
use Rattle.asn1_engine.specs.declared.documents.DocumentError.TheVariants as errors
use Rattle.asn1_engine.specs.declared.documents.Form.{Form}
use Rattle.asn1_engine.specs.declared.documents.Form.TheVariants as forms
use Rattle.asn1_engine.specs.declared.pem.Block.{Block}
use Rattle.asn1_engine.specs.declared.pem.PemError.{PemError}
use Rattle.asn1_engine.specs.declared.pem.PemError.TheVariants as pem_errors
use Rattle.asn1_engine.specs.Pem.{HasBlocks, IsNoBase64, TellsPem, seen_of}

-- of a document the name, the label and the octets
abbrev pub said_of : Document → List ℕ × Option (List ℕ) × List ℕ
said_of document = (string_bytes document.name, option_map string_bytes document.label, document.octets.items)

-- the name of a block in a file of this name
abbrev pub block_name : List ℕ → Block → List ℕ
block_name name block = name ++ codes ": " ++ string_bytes block.label ++ codes " in line " ++ decimal block.line

-- the same of the document of a block
abbrev pub said_of_block : List ℕ → Block → List ℕ × Option (List ℕ) × List ℕ
said_of_block name block = (block_name name block, Some (string_bytes block.label), block.octets.items)

-- the one document, of the file's name
abbrev pub HoldsOne : List ℕ → List ℕ → List Document → Type 0
HoldsOne name octets documents = map said_of documents ≡ (name, None, octets) ∷ []

-- the documents of all blocks of PEM in the text, in their order, one at least
abbrev pub HoldsBlocks : List ℕ → List ℕ → List Document → Type 0
HoldsBlocks name text documents = (blocks : List Block) × HasBlocks 0 text blocks None × (blocks ≢ []) ×
    (map said_of documents ≡ map (said_of_block name) blocks)

-- The text says the octets in hexadecimal, with any white space: two digits for each, in either case.
abbrev pub IsSpacedHexadecimal : List ℕ → List ℕ → Type 0
IsSpacedHexadecimal text octets = decode_of (seen_of text) ≡ Ok octets

-- The text is the base64 of the octets, with any white space (RFC 4648 4).
abbrev pub IsBase64 : List ℕ → List ℕ → Type 0
IsBase64 text octets = seen_of text ≡ encode_of standard octets

-- why the text holds no blocks of PEM
abbrev pub LacksBlocks : List ℕ → DocumentError → Type 0
LacksBlocks text (errors.Pem error) = (blocks : List Block) × HasBlocks 0 text blocks (Some error)
LacksBlocks text errors.NoBlock = HasBlocks 0 text [] None
LacksBlocks text _ = ⊥

-- the text is no hexadecimal of any octets
abbrev pub LacksHexadecimal : List ℕ → DocumentError → Type 0
LacksHexadecimal text error =
    (error ≡ errors.NoHexadecimal) × ((octets : List ℕ) → IsSpacedHexadecimal text octets → ⊥)

-- it is the base64 of none
abbrev pub LacksBase64 : List ℕ → DocumentError → Type 0
LacksBase64 text error = (error ≡ errors.NoBase64) × IsNoBase64 (seen_of text)

-- the documents that octets hold, read in a form
abbrev pub HoldsBy : Form → List ℕ → List ℕ → List Document → Type 0
HoldsBy forms.Told name octets documents = (TellsPem octets true × HoldsBlocks name octets documents) ⊎
    (TellsPem octets false × HoldsOne name octets documents)
HoldsBy forms.Octets name octets documents = HoldsOne name octets documents
HoldsBy forms.Pem name octets documents = HoldsBlocks name octets documents
HoldsBy forms.Hexadecimal name octets documents =
    (said : List ℕ) × IsSpacedHexadecimal octets said × HoldsOne name said documents
HoldsBy forms.Base64 name octets documents =
    (said : List ℕ) × IsBase64 octets said × HoldsOne name said documents

-- why they hold none
abbrev pub LacksBy : Form → List ℕ → DocumentError → Type 0
LacksBy forms.Told octets error = TellsPem octets true × LacksBlocks octets error
LacksBy forms.Octets octets error = ⊥
LacksBy forms.Pem octets error = LacksBlocks octets error
LacksBy forms.Hexadecimal octets error = LacksHexadecimal octets error
LacksBy forms.Base64 octets error = LacksBase64 octets error

-- the documents of a file of some octets
abbrev pub Holds : Form → List ℕ → List ℕ → List Document → Type 0
Holds form name octets documents = (octets ≢ []) × HoldsBy form name octets documents

-- Why a file holds none. It is empty, whatever the form, or its octets hold none.
abbrev pub LacksDocument : Form → List ℕ → DocumentError → Type 0
LacksDocument form octets error = ((octets ≡ []) × (error ≡ errors.Empty)) ⊎ ((octets ≢ []) × LacksBy form octets error)

-- what is wrong with PEM, as an error of a document
abbrev pub error_of : PemError → DocumentError
error_of pem_errors.OutOfMemory = errors.OutOfMemory
error_of error = errors.Pem error
