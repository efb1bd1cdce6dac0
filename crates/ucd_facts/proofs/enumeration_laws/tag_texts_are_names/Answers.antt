use Rattle.ucd_facts.specs.NameProofs.{tag_texts_are_names}
use Rattle.ucd_facts.proofs.enumeration_laws.tag_texts_are_names.Goals as goal

pub returns : goal.returns
returns c = tag_texts_are_names
