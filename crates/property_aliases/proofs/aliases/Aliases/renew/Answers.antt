use Rattle.std.proofs.Common.{◌≡◌, ℕ, true, false, List, ◌++◌, sym, ap, subst, ◌∙◌, option_map}
use Rattle.std.proofs.lemmas.Bool.{not-true}
use Rattle.property_aliases.specs.Edits.{HasSameNames, told_by}
use Rattle.property_aliases.specs.Found.{AreAliasesOf, index_in}
use Rattle.property_aliases.specs.Properties.{index_at, index_named}
use Rattle.property_aliases.specs.Resolving.{number_of}
use Rattle.property_aliases.specs.Tables.{built_in_names}
use Rattle.property_aliases.specs.declared.aliases.Aliases.{Aliases}
use Rattle.property_aliases.proofs.PlacedNames.{placed}
use Rattle.property_aliases.specs.Sources.{Sources, alias_rows, sources_of}
use Rattle.property_aliases.proofs.aliases.Aliases.renew.Goals as goal

-- the rows of alias files are the same, and the names that are numbered
pub returns-then-not-edited-clause-aliases : goal.returns-then-not-edited-clause-aliases
returns-then-not-edited-clause-aliases c =
    let next = sources_of c.args.release.now in
    let old = told_by c.requires.old in
    let before = c.requires.numbers in
    let now = c.in_ok-same.ensures.numbers c.requires.old c.requires.numbers c.requires.same in
    let names : HasSameNames c.renew_and_compare.new.self c.args.self.now.numbers = c.in_ok-same.ensures.same (c.if-same.true) in
    let off : c.args.edited.aliases ≡ false = not-true c.args.edited.aliases c.if-not-edited.true in
    let properties : old.properties ≡ next.properties = ap alias_rows (c.requires.same.properties off) in
    let values : old.values ≡ next.values = ap alias_rows (c.requires.same.values off) in
    let listed : old.listed ≡ next.listed = sym before.listed.names_are ∙ sym names.listed ∙ now.listed.names_are in
    let scripts : old.scripts ≡ next.scripts = sym before.scripts.names_are ∙ sym names.scripts ∙ now.scripts.names_are in
    let breaks : old.breaks ≡ next.breaks = sym before.breaks.names_are ∙ sym names.breaks ∙ now.breaks.names_are in
    let same : old ≡ next = λ i. let s : Sources = record { properties = properties i; values = values i; listed = listed i; scripts = scripts i; breaks = breaks i } in s in
    let whole : AreAliasesOf c.args.self.now next = subst (AreAliasesOf c.args.self.now) same c.requires.meant in
    record {
      property = whole.property;
      value = whole.value;
      lone = whole.lone;
      listed = now.listed.names_are;
      scripts = now.scripts.names_are;
      breaks = now.breaks.names_are;
    }

-- the places are made anew
pub returns-clause-aliases : goal.returns-clause-aliases
returns-clause-aliases c =
    let s = sources_of c.args.release.now in
    let a : Aliases = record { numbers = c.renew_and_compare.new.self; places = c.in_ok-self.field-0 } in
    let are = c.in_ok-same.ensures.numbers c.requires.old c.requires.numbers c.requires.same in
    let named : (key : List ℕ) → index_in a key ≡ index_named s key = λ key.
    ap (option_map index_at) (c.in_ok-self.ensures.properties key ∙ ap (λ (names : List (List ℕ)). number_of (built_in_names ++ names) s.properties key) are.listed.names_are) in
    placed a s named are.listed.names_are are.scripts.names_are are.breaks.names_are c.in_ok-self.ensures.values
