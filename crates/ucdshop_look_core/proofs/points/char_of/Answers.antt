use Rattle.std.proofs.Common.{ℕ, ◌==◌, Bool, true, length, None, ◌≡◌, ap, sym, ◌∙◌, if◌then◌else◌, eq-eqb}
use Rattle.bstr.specs.Utf8.{decoded}
use Rattle.ucd_points.specs.Fields.{if_point}
use Rattle.ucdshop_look_core.proofs.points.char_of.Goals as goal

pub returns-then-size-word : goal.returns-then-size-word
returns-then-size-word c =
    let word = c.args.word.now in
    let whole : ((decoded word).size == length word) ≡ true = eq-eqb (decoded word).size (length word) (sym c.decode-found.ensures.size ∙ c.if-size-word.true) in
    c.point_of_char.ensures ∙ ap if_point c.decode-found.ensures.char ∙ sym (ap (λ (b : Bool). if b then if_point (decoded word).char else None) whole)
