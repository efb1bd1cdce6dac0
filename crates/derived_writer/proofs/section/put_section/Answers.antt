use Rattle.std.proofs.Common.{◌≡◌, ◌∙◌, ◌++◌, ◌+◌, ◌-◌, ◌<◌, ◌≤◌, ℕ, List, length, sym, ap, subst, get_or, drop, arith, Bor}
use Rattle.std.proofs.lemmas.Result.{on_ok_weaker}
use Rattle.ucd_points.specs.Bounds.{Bounds}
use Rattle.ucd_points.specs.Limits.{point_count}
use Rattle.ucd_model.specs.CutLemmas.{cut_ended}
use Rattle.ucd_model.specs.DerivedText.{section_text}
use Rattle.ucd_model.specs.Labels.{Label}
use Rattle.ucd_model.specs.Cuts.{IsCut}
use Rattle.ucd_model.specs.Records.{Record}
use Rattle.ucd_model.specs.declared.records.Record.{Record as Kept}
use Rattle.label_runs.specs.Runs.{IsStretch}
use Rattle.label_runs.specs.Sections.{section_head, IsWritten}
use Rattle.derived_writer.specs.Listings.{listing_section, listing_labels, shown_label}
use Rattle.derived_writer.specs.declared.listing.Listing.{Listing}
use Rattle.derived_writer.specs.Shown.{AreShown}
use Rattle.derived_writer.proofs.CutLemmas.{run_is_stretch}
use Rattle.derived_writer.proofs.section.put_section.Goals as goal

pub runs-init : goal.runs-init
runs-init g c =
    let f : ℕ → Label = listing_labels c.args.listing (g.B.Records.record_of c.args.bench.now) in
    record {
      cut = rw c.in_ok-section.ensures.end c.requires.cut;
      written = subst (λ (name : List ℕ). IsWritten point_count f (c.args.text.now ++ section_head name) c.in_ok-section.section c.begin.new.text) c.name.ensures (c.in_ok-section.ensures.written point_count f);
    }

-- the label of the first record of a run is that of each of its pieces
one_label : (listing : Listing) (R : ℕ → Record) (pieces : List Bounds) (records : List (Bor Kept)) (at end : ℕ) (kept : Bor Kept) (text : Label) (d : Bounds) → AreShown R pieces records → end ≤ length records → kept ≡ get_or records at kept → text ≡ shown_label listing kept
    → ((k : ℕ) (other : Bor Kept) → at ≤ k → k < end → shown_label listing (get_or records k other) ≡ shown_label listing (get_or records at other))
    → (k : ℕ) → at ≤ k → k < end → (listing_section listing).label (R (get_or pieces k d).lo) ≡ text
one_label listing R pieces records at end kept text d shown inside found told same k low high =
    let count = shown.count in
    ap (listing_section listing).label (sym (shown.each k d kept (omega arith))) ∙ same k kept low high ∙ ap (shown_label listing) (sym found) ∙ sym told

-- the pieces of a run, of which the last is `last`
run_found : (listing : Listing) (R : ℕ → Record) (lo at end : ℕ) (pieces : List Bounds) (text : Label) (last : Bounds) → at < end → end ≤ length pieces → last ≡ get_or pieces (end - 1) last → IsCut R lo point_count (drop at pieces)
    → ((k : ℕ) → at ≤ k → k < end → (listing_section listing).label (R (get_or pieces k last).lo) ≡ text)
    → IsStretch point_count (listing_labels listing R) lo (last.hi + 1) text × IsCut R (last.hi + 1) point_count (drop end pieces)
run_found listing R lo at end pieces text last some inside is cut same =
    let found = run_is_stretch R (listing_section listing).label text lo point_count pieces at end last some inside cut same in (
      subst (λ (b : Bounds). IsStretch point_count (listing_labels listing R) lo (b.hi + 1) text) (sym is) found.0,
      subst (λ (b : Bounds). IsCut R (b.hi + 1) point_count (drop end pieces)) (sym is) found.1,
    )

pub go_on-requires-clause-ahead : goal.go_on-requires-clause-ahead
go_on-requires-clause-ahead g c =
    let R : ℕ → Record = g.B.Records.record_of c.args.bench.now in
    let count = c.requires.records.count in
    let within = c.end_of_same-end.ensures.within in
    let same = one_label c.args.listing R c.args.pieces.now c.args.records.now c.runs.at c.end_of_same-end.result c.index-records-at.result c.set_label.new.label c.index-pieces-end.result c.requires.records within c.index-records-at.is c.in_ok-set_label.ensures c.end_of_same-end.ensures.same in
    let run = run_found c.args.listing R c.runs.section.end c.runs.at c.end_of_same-end.result c.args.pieces.now c.set_label.new.label c.index-pieces-end.result c.end_of_same-end.ensures.from (omega arith) c.index-pieces-end.is c.runs.invariant.cut same in
    let some = run.0.some in
    let last = c.last.ensures.value in
    omega (arith, some, last)

pub runs-preserved : goal.runs-preserved
runs-preserved g c =
    let R : ℕ → Record = g.B.Records.record_of c.args.bench.now in
    let f : ℕ → Label = listing_labels c.args.listing R in
    let count = c.requires.records.count in
    let within = c.end_of_same-end.ensures.within in
    let same = one_label c.args.listing R c.args.pieces.now c.args.records.now c.runs.at c.end_of_same-end.result c.index-records-at.result c.set_label.new.label c.index-pieces-end.result c.requires.records within c.index-records-at.is c.in_ok-set_label.ensures c.end_of_same-end.ensures.same in
    let run = run_found c.args.listing R c.runs.section.end c.runs.at c.end_of_same-end.result c.args.pieces.now c.set_label.new.label c.index-pieces-end.result c.end_of_same-end.ensures.from (omega arith) c.index-pieces-end.is c.runs.invariant.cut same in
    record {
      cut = rw (c.in_ok-go_on.ensures.end, c.last.ensures.value) run.1;
      written = c.in_ok-go_on.ensures.written point_count f (c.args.text.now ++ section_head (listing_section c.args.listing).name) (rw c.last.ensures.value run.0) c.runs.invariant.written;
    }

pub returns : goal.returns
returns g c =
    let R : ℕ → Record = g.B.Records.record_of c.args.bench.now in
    let f : ℕ → Label = listing_labels c.args.listing R in
    let name : List ℕ = (listing_section c.args.listing).name in
    let ends : c.runs.section.end ≡ point_count = cut_ended R c.runs.section.end point_count c.runs.at c.args.pieces.now c.runs-test.false c.runs.invariant.cut in
    let written = subst (λ (n : ℕ). IsWritten n f (c.args.text.now ++ section_head name) c.runs.section c.runs.text) (sym ends) c.runs.invariant.written in
    on_ok_weaker c.end.result (λ (whole : (f : ℕ → Label) (before name : List ℕ) → IsWritten c.runs.section.end f (before ++ section_head name) c.runs.section c.runs.text → c.end.new.text ≡ before ++ section_text name c.runs.section.end f).
    subst (λ (n : ℕ). c.end.new.text ≡ c.args.text.now ++ section_text name n f) ends (whole f c.args.text.now name written)) c.end.ensures
