use Rattle.std.proofs.Common.{rules, ◌≡◌, ◌∙◌, sym, ap, arith}
use Rattle.std.specs.Prelude.{slice_get}
use Rattle.std.specs.declared.option.Option.TheVariants.{Some}
use Rattle.std.proofs.lemmas.Grind.{common_steps}
use Rattle.std.proofs.lemmas.Option.{gets, slice_get_within}
use Rattle.std.proofs.lemmas.List.Sorted.{IsPartitionPoint-from_clause}
use Rattle.rmt_nameset.proofs.Ranges.{parted, point_is}
use Rattle.rmt_events.specs.Clusters.{Attempt}
use Rattle.rmt_cluster.proofs.AttemptLemmas.{is_before, before-down, nowhere, any_attempt, some-same}
use Rattle.rmt_cluster.proofs.attempts.place_of.Goals as goal

pub returns-then-at-attempts : goal.returns-then-at-attempts
returns-then-at-attempts c =
    let p = IsPartitionPoint-from_clause (is_before c.args.id) _ _ c.partition_point-at.ensures.partitioned (parted _ _ (before-down c.args.id c.args.attempts.now c.requires)) (λ a r f' k. search rules) in
    let n = point_is (is_before c.args.id) c.args.attempts.now _ any_attempt c.partition_point-at.ensures.bound p in
    nowhere c.args.id c.args.attempts.now c.requires (λ x e q. let l = slice_get_within c.args.attempts.now _ x e in let h = c.if-at-attempts.true in omega (arith, l, h, n))

pub returns-then-id : goal.returns-then-id
returns-then-id c =
    let p = IsPartitionPoint-from_clause (is_before c.args.id) _ _ c.partition_point-at.ensures.partitioned (parted _ _ (before-down c.args.id c.args.attempts.now c.requires)) (λ a r f' k. search rules) in
    let n = point_is (is_before c.args.id) c.args.attempts.now _ any_attempt c.partition_point-at.ensures.bound p in
    let here : slice_get c.args.attempts.now c.partition_point-at.result ≡ Some c.index-attempts-at.result = grind (arith, common_steps, gets) in
    nowhere c.args.id c.args.attempts.now c.requires (λ x e q.
    let s = some-same c.index-attempts-at.result x (sym here ∙ (ap (slice_get c.args.attempts.now) n ∙ e)) in
    let i = ap (λ (y : Attempt). y.id) s in
    let k = c.id.ensures in
    let h = c.if-id.true in
    omega (arith, i, k, h, q))

pub returns : goal.returns
returns c =
    let here : slice_get c.args.attempts.now c.partition_point-at.result ≡ Some c.index-attempts-at.result = grind (arith, common_steps, gets) in
    let k = c.id.ensures in
    let h = c.if-id.false in
    record { attempt = c.index-attempts-at.result; stands = here; same_id = omega (arith, k, h) }
