use Rattle.std.proofs.Common.{◌≡◌, ℕ, zero, suc, ◌-◌, Bool, true, false, ◌&&◌, eqb, List, [], ◌∷◌, take, drop, length, refl, sym, ap, ◌∙◌, codes, bytes_eq}
use Rattle.std.specs.List.{prefix_len, suffix_len, position_or_len, before_first, after_first}
use Rattle.std.proofs.lemmas.Bool.{or_parts}
use Rattle.ucd_points.specs.Lines.{is_blank}
use Rattle.ucd_points.specs.Fields.{fields, field, trim, trim_start, is_label_closed_by, is_semicolon}
use Rattle.source_rows.specs.Fields.{fields_of}
use Rattle.source_rows.specs.Lines.{has_first_name}
use Rattle.source_rows.specs.Openings.{may_open_name}
use Rattle.source_rows.proofs.FieldCuts.{first_is, others_are}
use Rattle.source_rows.proofs.unicode_data.begins_range.Goals as goal

-- the first n bytes of a text, without white space at their beginning, cut once more
not_opened : (n m b : ℕ) (bs : List ℕ) → eqb b 60 ≡ false → is_blank b ≡ false → bytes_eq (take 1 (take m (drop (prefix_len is_blank (take n (b ∷ bs))) (take n (b ∷ bs))))) (codes "<") ≡ false
not_opened zero zero b bs other solid = refl
not_opened zero (suc m) b bs other solid = refl
not_opened (suc n) zero b bs other solid = refl
not_opened (suc n) (suc m) b bs other solid = rw (solid, other) refl

no_name : (text : List ℕ) → may_open_name text ≡ false → bytes_eq (take 1 (trim (before_first is_semicolon text))) (codes "<") ≡ false
no_name [] h = refl
no_name (b ∷ bs) h =
    let parts = or_parts (eqb b 60) (is_blank b) h in
    let n : ℕ = position_or_len is_semicolon (b ∷ bs) in
    let start : List ℕ = trim_start (take n (b ∷ bs)) in
    not_opened n (length start - suffix_len is_blank start) b bs parts.0 parts.1

none_first : (a b : Bool) (c : Bool) → a ≡ false → (a && b) && c ≡ false
none_first a b c e = rw e refl

no_first_name : (text : List ℕ) → may_open_name text ≡ false → has_first_name (trim (before_first is_semicolon text)) ≡ false
unfolding is_label_closed_by
no_first_name text h = none_first _ _ _ (no_name text h)

none_both : (a b : Bool) → b ≡ false → a && b ≡ false
none_both true b e = e
none_both false b e = refl

pub returns-then-not-may_begin_range_name : goal.returns-then-not-may_begin_range_name
unfolding fields
returns-then-not-may_begin_range_name c =
    let content = c.args.content.now in
    let behind : c.cut_at_near_semicolon.result.1.now ≡ after_first is_semicolon content = c.cut_at_near_semicolon.ensures.after in
    let closed : may_open_name (after_first is_semicolon content) ≡ false = ap may_open_name (sym behind) ∙ sym c.may_begin_range_name.ensures ∙ c.if-not-may_begin_range_name.true in
    let name : field (fields_of content) 1 ≡ trim (before_first is_semicolon (after_first is_semicolon content)) = others_are content 0 ∙ first_is (after_first is_semicolon content) in
    sym (none_both _ (has_first_name (field (fields_of content) 1)) (ap has_first_name name ∙ no_first_name (after_first is_semicolon content) closed))
