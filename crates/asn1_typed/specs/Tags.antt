-- Tags of types in the words of X.680.
use Rattle.std.specs.Prelude.{ℕ, List, [], ◌++◌, codes, nat_eq, if◌then◌else◌, flat_map}
use Rattle.asn1_schema.specs.declared.schema.TypeTag.{TypeTag}
use Rattle.asn1_schema.specs.declared.schema.Tags.{Tags}
use Rattle.asn1_schema.specs.declared.schema.Tags.TheVariants as tags
use Rattle.asn1_words.specs.Words.{number_text}

-- the word of a class; a context-specific tag has none (X.680 31.2)
abbrev pub class_prefix : ℕ → List ℕ
class_prefix class =
    if nat_eq class 0 then codes "UNIVERSAL "
    else if nat_eq class 1 then codes "APPLICATION "
    else if nat_eq class 2 then [] else codes "PRIVATE "

abbrev pub type_tag_text : TypeTag → List ℕ
type_tag_text tag = codes "[" ++ class_prefix tag.class ++ number_text tag.number ++ codes "]"

-- tags, each behind a space
abbrev pub listed_text : List TypeTag → List ℕ
listed_text listed = flat_map (λ tag. codes " " ++ type_tag_text tag) listed

-- the tags of the elements of a type
abbrev pub tags_text : Tags → List ℕ
tags_text (tags.Among listed) = listed_text listed.items
tags_text (tags.AllBut listed) = codes " any tag but" ++ listed_text listed.items
