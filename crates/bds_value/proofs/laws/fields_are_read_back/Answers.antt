use Rattle.bds_value.proofs.ListFieldLaws.{texts_are_field, types_are_field}
use Rattle.bds_value.proofs.NumberLaws.{u8_is_field, bool_is_field, u16_is_field, u32_is_field, u64_is_field, i64_is_field, count_is_field, text_is_field}
use Rattle.bds_value.proofs.TyFieldLaws.{ty_is_field}
use Rattle.bds_value.proofs.ValueFieldLaws.{value_is_field}
use Rattle.bds_value.proofs.laws.fields_are_read_back.Goals as goal

pub returns-clause-byte : goal.returns-clause-byte
returns-clause-byte c = u8_is_field

pub returns-clause-truth : goal.returns-clause-truth
returns-clause-truth c = bool_is_field

pub returns-clause-number_of_16 : goal.returns-clause-number_of_16
returns-clause-number_of_16 c = u16_is_field

pub returns-clause-number_of_32 : goal.returns-clause-number_of_32
returns-clause-number_of_32 c = u32_is_field

pub returns-clause-number_of_64 : goal.returns-clause-number_of_64
returns-clause-number_of_64 c = u64_is_field

pub returns-clause-signed : goal.returns-clause-signed
returns-clause-signed c = i64_is_field

pub returns-clause-count : goal.returns-clause-count
returns-clause-count c = count_is_field

pub returns-clause-text : goal.returns-clause-text
returns-clause-text c = text_is_field

pub returns-clause-ty : goal.returns-clause-ty
returns-clause-ty c = ty_is_field

pub returns-clause-value : goal.returns-clause-value
returns-clause-value c = value_is_field

pub returns-clause-texts : goal.returns-clause-texts
returns-clause-texts c = texts_are_field

pub returns-clause-types : goal.returns-clause-types
returns-clause-types c = types_are_field
