use Rattle.std.proofs.Common.{◌&&◌, Bool, sym, ap₂, ◌∙◌, arith}
use Rattle.std.proofs.lemmas.List.Folds.{list_all_more}
use Rattle.ucd_points.specs.Fields.{is_name_byte}
use Rattle.source_rows.proofs.code_point.are_name_bytes.Goals as goal

pub bytes-preserved : goal.bytes-preserved
bytes-preserved c = ap₂ (λ (a b : Bool). a && b) c.bytes.invariant c.is_name_byte-all.ensures ∙ sym (list_all_more is_name_byte c.args.text.now c.bytes.byte-index 0 (omega arith))
