use Rattle.ucd_model.specs.LabelProofs.{labels_tell_values}
use Rattle.ucd_model.proofs.label_laws.labels_tell_values.Goals as goal

pub returns : goal.returns
returns c = labels_tell_values
