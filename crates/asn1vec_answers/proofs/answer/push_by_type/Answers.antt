use Rattle.asn1vec_answers.proofs.answer.push_by_type.Goals as goal

pub returns-in-U8 : goal.returns-in-U8
returns-in-U8 c = rw c.in-U8.is c.push_leaf.ensures

pub returns-in-U16 : goal.returns-in-U16
returns-in-U16 c = rw c.in-U16.is c.push_leaf-in-U16.ensures

pub returns-in-U32 : goal.returns-in-U32
returns-in-U32 c = rw c.in-U32.is c.push_leaf-in-U32.ensures

pub returns-in-U64 : goal.returns-in-U64
returns-in-U64 c = rw c.in-U64.is c.push_leaf-in-U64.ensures

pub returns-in-U128 : goal.returns-in-U128
returns-in-U128 c = rw c.in-U128.is c.push_leaf-in-U128.ensures

pub returns-in-I8 : goal.returns-in-I8
returns-in-I8 c = rw c.in-I8.is c.push_leaf-in-I8.ensures

pub returns-in-I16 : goal.returns-in-I16
returns-in-I16 c = rw c.in-I16.is c.push_leaf-in-I16.ensures

pub returns-in-I32 : goal.returns-in-I32
returns-in-I32 c = rw c.in-I32.is c.push_leaf-in-I32.ensures

pub returns-in-I64 : goal.returns-in-I64
returns-in-I64 c = rw c.in-I64.is c.push_leaf-in-I64.ensures

pub returns-in-I128 : goal.returns-in-I128
returns-in-I128 c = rw c.in-I128.is c.push_leaf-in-I128.ensures

pub returns-in-Any : goal.returns-in-Any
returns-in-Any c = rw c.in-Any.is c.push_by_either.ensures

pub returns-in-Bool : goal.returns-in-Bool
returns-in-Bool c = rw c.in-Bool.is c.push_leaf-in-Bool.ensures

pub returns-in-Null : goal.returns-in-Null
returns-in-Null c = rw c.in-Null.is c.push_leaf-in-Null.ensures

pub returns-in-Eoc : goal.returns-in-Eoc
returns-in-Eoc c = rw c.in-Eoc.is c.push_by_ber.ensures

pub returns-in-Octets : goal.returns-in-Octets
returns-in-Octets c = rw c.in-Octets.is c.push_leaf-in-Octets.ensures

pub returns-in-Bits : goal.returns-in-Bits
returns-in-Bits c = rw c.in-Bits.is c.push_leaf-in-Bits.ensures

pub returns-in-Enumerated : goal.returns-in-Enumerated
returns-in-Enumerated c = rw c.in-Enumerated.is c.push_leaf-in-Enumerated.ensures

pub returns-in-Integer : goal.returns-in-Integer
returns-in-Integer c = rw c.in-Integer.is c.push_leaf-in-Integer.ensures

pub returns-in-VecU8 : goal.returns-in-VecU8
returns-in-VecU8 c = rw c.in-VecU8.is c.push_vec_u8.ensures

pub returns-in-VecU32 : goal.returns-in-VecU32
returns-in-VecU32 c = rw c.in-VecU32.is c.push_vec_u32.ensures

pub returns-in-VecBool : goal.returns-in-VecBool
returns-in-VecBool c = rw c.in-VecBool.is c.push_vec_bool.ensures

pub returns-in-VecVecU8 : goal.returns-in-VecVecU8
returns-in-VecVecU8 c = rw c.in-VecVecU8.is c.push_vec_vec_u8.ensures

pub returns-in-SetOfU8 : goal.returns-in-SetOfU8
returns-in-SetOfU8 c = rw c.in-SetOfU8.is c.push_set_of_u8.ensures

pub returns-in-BTreeSetU8 : goal.returns-in-BTreeSetU8
returns-in-BTreeSetU8 c = rw c.in-BTreeSetU8.is c.push_btree_set_u8.ensures

pub returns-in-Sequence : goal.returns-in-Sequence
returns-in-Sequence c = rw c.in-Sequence.is c.push_leaf-in-Sequence.ensures

pub returns-in-Set : goal.returns-in-Set
returns-in-Set c = rw c.in-Set.is c.push_leaf-in-Set.ensures

pub returns-in-SeqOfU32 : goal.returns-in-SeqOfU32
returns-in-SeqOfU32 c = rw c.in-SeqOfU32.is c.push_sequence_of_u32.ensures

pub returns-in-Explicit0U32 : goal.returns-in-Explicit0U32
returns-in-Explicit0U32 c = rw c.in-Explicit0U32.is c.push_explicit_0_u32.ensures

pub returns-in-Explicit31U8 : goal.returns-in-Explicit31U8
returns-in-Explicit31U8 c = rw c.in-Explicit31U8.is c.push_explicit_31_u8.ensures

pub returns-in-VecExplicit31U8 : goal.returns-in-VecExplicit31U8
returns-in-VecExplicit31U8 c = rw c.in-VecExplicit31U8.is c.push_vec_explicit_31_u8.ensures

pub returns-in-OptU8 : goal.returns-in-OptU8
returns-in-OptU8 c = rw c.in-OptU8.is c.push_optional.ensures

pub returns-in-HashSetI8 : goal.returns-in-HashSetI8
returns-in-HashSetI8 c = rw c.in-HashSetI8.is c.push_hash_set_i8.ensures

pub returns-in-Implicit1VecU16 : goal.returns-in-Implicit1VecU16
returns-in-Implicit1VecU16 c = rw c.in-Implicit1VecU16.is c.push_implicit_1_vec_u16.ensures

pub returns-in-Oid : goal.returns-in-Oid
returns-in-Oid c = rw c.in-Oid.is c.push_leaf-in-Oid.ensures

pub returns-in-Utf8 : goal.returns-in-Utf8
returns-in-Utf8 c = rw c.in-Utf8.is c.push_leaf-in-Utf8.ensures

pub returns-in-Numeric : goal.returns-in-Numeric
returns-in-Numeric c = rw c.in-Numeric.is c.push_leaf-in-Numeric.ensures

pub returns-in-Printable : goal.returns-in-Printable
returns-in-Printable c = rw c.in-Printable.is c.push_leaf-in-Printable.ensures

pub returns-in-Teletex : goal.returns-in-Teletex
returns-in-Teletex c = rw c.in-Teletex.is c.push_leaf-in-Teletex.ensures

pub returns-in-Videotex : goal.returns-in-Videotex
returns-in-Videotex c = rw c.in-Videotex.is c.push_leaf-in-Videotex.ensures

pub returns-in-Ia5 : goal.returns-in-Ia5
returns-in-Ia5 c = rw c.in-Ia5.is c.push_leaf-in-Ia5.ensures

pub returns-in-Graphic : goal.returns-in-Graphic
returns-in-Graphic c = rw c.in-Graphic.is c.push_leaf-in-Graphic.ensures

pub returns-in-Visible : goal.returns-in-Visible
returns-in-Visible c = rw c.in-Visible.is c.push_leaf-in-Visible.ensures

pub returns-in-General : goal.returns-in-General
returns-in-General c = rw c.in-General.is c.push_leaf-in-General.ensures

pub returns-in-Descriptor : goal.returns-in-Descriptor
returns-in-Descriptor c = rw c.in-Descriptor.is c.push_leaf-in-Descriptor.ensures

pub returns-in-Universal : goal.returns-in-Universal
returns-in-Universal c = rw c.in-Universal.is c.push_leaf-in-Universal.ensures

pub returns-in-Bmp : goal.returns-in-Bmp
returns-in-Bmp c = rw c.in-Bmp.is c.push_leaf-in-Bmp.ensures

pub returns-in-UtcTime : goal.returns-in-UtcTime
returns-in-UtcTime c = rw c.in-UtcTime.is c.push_leaf-in-UtcTime.ensures

pub returns-in-GenTime : goal.returns-in-GenTime
returns-in-GenTime c = rw c.in-GenTime.is c.push_leaf-in-GenTime.ensures

pub returns-in-Pdv : goal.returns-in-Pdv
returns-in-Pdv c = rw c.in-Pdv.is c.push_by_either-in-Pdv.ensures

pub returns-in-X509Name : goal.returns-in-X509Name
returns-in-X509Name c = rw c.in-X509Name.is c.push_x509_name.ensures
