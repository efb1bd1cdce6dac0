-- Which rows a group touches, and what a desk answers. An exclusion from composition is added and withdrawn, and so are rows
-- of two other files.
use Rattle.std.specs.Prelude.{◌≡◌, true, false, [], ◌∷◌, Some, None, codes, refl}
use Rattle.ucd_points.specs.declared.files.SourceFile.TheVariants.{UnicodeData, PropList, CompositionExclusions}
use Rattle.ucd_facts.specs.declared.row.Row.TheVariants.{Exclusion}
use Rattle.release_rows.specs.declared.operation.Op.{Op}
use Rattle.release_rows.specs.declared.operation.Op.TheVariants.{Add, Withdraw}
use Rattle.bench_editors.specs.Rows.{last_touched, row_of, same_row, touches}
use Rattle.bench_editors.specs.Desks.{DeskState, answer, early_reply}
use Rattle.bench_editors.specs.declared.event.Event.TheVariants.{Enter, Propose, Leave}
use Rattle.bench_editors.specs.declared.reply.Reply.TheVariants.{Entered, Left, Present, Absent, Ahead, Stale}

abbrev exclude : Op
exclude = Add CompositionExclusions (Exclusion (record { span = record { lo = 0xC0; hi = 0xC0 } })) (codes "00C0 # A with grave")

abbrev include : Op
include = Withdraw CompositionExclusions (record { code = Some 0xC0; names = [] })

abbrev unassign : Op
unassign = Withdraw UnicodeData (record { code = Some 0xC0; names = [] })

abbrev no_dash : Op
no_dash = Withdraw PropList (record { code = Some 0x2D; names = codes "Dash" ∷ [] })

abbrev no_hyphen : Op
no_hyphen = Withdraw PropList (record { code = Some 0x2D; names = codes "Hyphen" ∷ [] })

-- a row is found by its file, its code point and its names, however it is written
row_examples : (touches (row_of include) (no_dash ∷ exclude ∷ []) ≡ true) × (touches (row_of include) (unassign ∷ []) ≡ false) × (same_row (row_of no_dash) (row_of no_hyphen) ≡ false)
row_examples = (refl, refl, refl)

touched_examples : (last_touched [] (row_of include) ≡ 0) × (last_touched ((exclude ∷ []) ∷ [] ∷ (unassign ∷ []) ∷ []) (row_of include) ≡ 1)
    × (last_touched ((exclude ∷ []) ∷ (no_dash ∷ include ∷ []) ∷ [] ∷ []) (row_of include) ≡ 2)
touched_examples = (refl, refl, refl)

-- two groups were accepted, and the editors 1 and 2 are present
abbrev desk : DeskState
desk = record { files = []; editors = 2 ∷ 1 ∷ []; groups = (exclude ∷ []) ∷ (unassign ∷ []) ∷ [] }

stale_examples : ((answer desk (Propose 2 0 (include ∷ []))).reply ≡ Stale 1 1) × ((answer desk (Propose 2 0 (no_dash ∷ include ∷ unassign ∷ []))).reply ≡ Stale 2 2)
    × (early_reply desk 2 1 (include ∷ no_dash ∷ []) ≡ None) × (early_reply desk 2 1 (include ∷ unassign ∷ []) ≡ Some (Stale 2 2))
stale_examples = (refl, refl, refl, refl)

early_examples : ((answer desk (Propose 2 3 [])).reply ≡ Ahead 2) × ((answer desk (Propose 3 3 [])).reply ≡ Absent) × (early_reply desk 2 2 [] ≡ None)
early_examples = (refl, refl, refl)

editor_examples : ((answer desk (Enter 2)).reply ≡ Present) × ((answer desk (Enter 3)).reply ≡ Entered 2) × ((answer desk (Leave 3)).reply ≡ Absent)
    × ((answer desk (Leave 2)).reply ≡ Left) × ((answer desk (Leave 2)).state.editors ≡ 1 ∷ [])
editor_examples = (refl, refl, refl, refl, refl)
