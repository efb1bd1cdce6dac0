use Rattle.std.proofs.Common.{sym, subst, codes, IsUtf8}
use Rattle.std.proofs.lemmas.Str.{IsUtf8-append}
use Rattle.shelf_io.proofs.beside.beside_in.Goals as goal

pub returns-in-Err-clause-fits : goal.returns-in-Err-clause-fits
returns-in-Err-clause-fits c =
    let ending : IsUtf8 (codes ".ucdshop-new") = subst IsUtf8 c.beside_ending.ensures.bytes c.beside_ending.ensures.text in
    λ short. absurd (c.in-Err.ensures.cases.0 (subst IsUtf8 (sym c.put_beside.ensures) (IsUtf8-append c.args.path.now (codes ".ucdshop-new") c.requires ending)))
