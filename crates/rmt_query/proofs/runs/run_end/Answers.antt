use Rattle.std.proofs.Common.{◌≡◌, ℕ, [], get_or, sym, ap, ◌∙◌, subst, arith}
use Rattle.std.proofs.lemmas.List.{get_or_default}
use Rattle.std.proofs.lemmas.Cmp.{tied_itself}
use Rattle.std.specs.declared.cmp.Ordering.TheVariants.{Equal}
use Rattle.rmt_values.specs.Rows.{key_cmp}
use Rattle.rmt_values.proofs.Totals.{key_cmp_total}
use Rattle.rmt_query.proofs.runs.run_end.Goals as goal

pub rows-init : goal.rows-init
rows-init c = λ k d a p.
    let z : k ≡ 0 = omega arith in
    let g = c.args.group.now in
    let rows = c.args.rows.now in
    subst (λ (j : ℕ). key_cmp g (get_or rows 0 []) (get_or rows j d) ≡ Equal) (sym z)
    (ap (key_cmp g (get_or rows 0 [])) (get_or_default rows 0 d [] c.requires) ∙ tied_itself (key_cmp_total g) (get_or rows 0 []))
