-- The words of callers' clauses, passed on from one place: what readers and writers are asked and answer, and what an
-- author's records say. Declares nothing.
pub use Rattle.std.specs.Prelude.{refl}
pub use Rattle.x690.specs.Identifiers.{IsTruncatedIdentifier}
pub use Rattle.x690.specs.Octets.{IsOctets}
pub use Rattle.asn1_headers.specs.Answers.{seen, Exactly, TellsMemory}
pub use Rattle.asn1_headers.specs.Ber.{EndsWithin}
pub use Rattle.asn1_headers.specs.Class.{class_number}
pub use Rattle.asn1_headers.specs.Error.{ErrorIs, IsInvalidValue}
pub use Rattle.asn1_headers.specs.Prepended.{Prepended}
pub use Rattle.asn1_headers.specs.Writer.{MayRefuse, IsMemoryOrLength, Wrote}
pub use Rattle.asn1_headers.specs.declared.error.Error.{Error}
pub use Rattle.asn1_headers.specs.declared.error.Error.TheVariants.{OutOfMemory}
pub use Rattle.asn1_headers.specs.declared.error.SerializeError.{SerializeError}
pub use Rattle.asn1_rs.specs.Any.{BeginsWithAny, parts_of}
pub use Rattle.asn1_rs.specs.Any.Decoded.{IsFront, IsReadAgain, IsWordInHand}
pub use Rattle.asn1_rs.specs.Any.Kept.{as_element, kept_value}
pub use Rattle.asn1_rs.specs.Callers.{ReadsByDer, ReadsByBer, WritesStrict}
pub use Rattle.asn1_rs.specs.Choices.{ChoiceGives, ChoiceReads, has_a_class, has_a_tag}
pub use Rattle.asn1_rs.specs.Choices.Data.{ChecksOf, choice_numbers, choice_of, choice_type, numbers_of_choice}
pub use Rattle.asn1_rs.specs.Copies.{copied_by}
pub use Rattle.asn1_rs.specs.Grammar.Item.{ber_words}
pub use Rattle.asn1_rs.specs.Set.{items_of}
pub use Rattle.asn1_rs.specs.Structs.{MadeOf, by_ber, by_der, is_one_of, puts_of}
pub use Rattle.asn1_rs.specs.Structs.Data.{struct_of, struct_type}
pub use Rattle.asn1_rs.specs.Structs.DefaultTypes.{its_own_type}
pub use Rattle.asn1_rs.specs.Structs.Keys.{key_of}
pub use Rattle.asn1_rs.specs.Structs.Members.{struct_members}
pub use Rattle.asn1_rs.specs.Structs.PartsOfRows.{PartGives, part_of}
pub use Rattle.asn1_rs.specs.ToDer.{whole_allocates, whole_octets, whole_refuses}
pub use Rattle.asn1_rs.specs.Whole.{IsWhole, TakesWhole}
