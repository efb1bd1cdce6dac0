use Rattle.ucd_model.specs.DerivedFilesLaws.{derived_text_same}
use Rattle.derived_writer.proofs.laws.texts_follow_records.Goals as goal

pub returns : goal.returns
returns c = derived_text_same
