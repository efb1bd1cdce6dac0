use Rattle.release_rows.proofs.load_row.loaded_row_of.Goals as goal

pub returns : goal.returns
returns c = record {
  names = c.in_ok-names.ensures;
  code = c.row_extent-code.ensures.first;
  last = c.row_extent-code.ensures.last;
  ordered = c.row_extent-code.ensures.ordered;
  reach = c.row_points-reach.ensures.last;
  brief = c.of_row_ref-brief.ensures;
}
