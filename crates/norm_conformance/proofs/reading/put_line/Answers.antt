use Rattle.std.proofs.Common.{◌≡◌, [], ◌∷◌, ◌++◌, Ok, refl, ap, ◌∙◌}
use Rattle.norm_conformance.specs.Cases.{case_of, onto, with_line}
use Rattle.norm_conformance.specs.Lines.{said}
use Rattle.norm_conformance.specs.declared.line.Line.TheVariants.{Tested}
use Rattle.norm_conformance.proofs.CaseLemmas.{onto_case}
use Rattle.norm_conformance.proofs.reading.put_line.Goals as goal

pub returns-in_ok-push-in-Ok-Tested : goal.returns-in_ok-push-in-Ok-Tested
returns-in_ok-push-in-Ok-Tested c rest =
    let case = case_of c.args.line c.args.part c.in-Ok-Tested.columns in
    let says : said c.args.content.now ≡ Ok (Tested c.in-Ok-Tested.columns) = cc in
    let put : c.push.new.self ≡ c.args.cases.now.list ++ case ∷ [] = cc (c.in_ok-push-in-Ok-Tested.ensures.ok, c.in_ok-case-in-Ok-Tested.ensures) in
    ap (λ s. onto c.args.cases.now (with_line c.args.line c.args.part s rest)) says
    ∙ onto_case c.args.cases.now (record { list = c.push.new.self; part_one = c.args.cases.now.part_one }) case (rest c.args.part) put refl
