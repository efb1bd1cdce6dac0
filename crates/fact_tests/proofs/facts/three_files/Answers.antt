use Rattle.std.proofs.Common.{ap, ◌∙◌}
use Rattle.ucd_points.specs.declared.files.SourceFile.TheVariants.{PropList, CaseFolding, SpecialCasing, WordBreakProperty, CompositionExclusions}
use Rattle.release_rows.specs.Releases.{ReleaseItems, items_now}
use Rattle.fact_tests.proofs.facts.three_files.Goals as goal

pub load_file-requires-2 : goal.load_file-requires-2
load_file-requires-2 c = c.load_file.ensures.others PropList (λ same. absurd cc) ∙ ap (λ (r : ReleaseItems). items_now r PropList) c.empty-release.ensures

pub load_file-requires-3 : goal.load_file-requires-3
load_file-requires-3 c = c.load_file-2.ensures.others CaseFolding (λ same. absurd cc) ∙ c.load_file.ensures.others CaseFolding (λ same. absurd cc) ∙ ap (λ (r : ReleaseItems). items_now r CaseFolding) c.empty-release.ensures

pub returns-clause-casings : goal.returns-clause-casings
returns-clause-casings c = c.load_file-3.ensures.others SpecialCasing (λ same. absurd cc) ∙ c.load_file-2.ensures.others SpecialCasing (λ same. absurd cc) ∙ c.load_file.ensures.others SpecialCasing (λ same. absurd cc) ∙ ap (λ (r : ReleaseItems). items_now r SpecialCasing) c.empty-release.ensures

pub returns-clause-words : goal.returns-clause-words
returns-clause-words c = c.load_file-3.ensures.others WordBreakProperty (λ same. absurd cc) ∙ c.load_file-2.ensures.others WordBreakProperty (λ same. absurd cc) ∙ c.load_file.ensures.others WordBreakProperty (λ same. absurd cc) ∙ ap (λ (r : ReleaseItems). items_now r WordBreakProperty) c.empty-release.ensures

pub returns-clause-exclusions : goal.returns-clause-exclusions
returns-clause-exclusions c = c.load_file-3.ensures.others CompositionExclusions (λ same. absurd cc) ∙ c.load_file-2.ensures.others CompositionExclusions (λ same. absurd cc) ∙ c.load_file.ensures.others CompositionExclusions (λ same. absurd cc) ∙ ap (λ (r : ReleaseItems). items_now r CompositionExclusions) c.empty-release.ensures
