use Rattle.layout.proofs.FieldLaws.{field_some, field_none}
use Rattle.layout.proofs.fields.read.Goals as goal

pub returns-in_default : goal.returns-in_default
returns-in_default g c = field_none _ _ _ c.in_default.ensures

pub returns : goal.returns
returns g c = field_some _ _ _ _ c.in-Some.ensures
