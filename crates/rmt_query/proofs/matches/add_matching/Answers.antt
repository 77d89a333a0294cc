use Rattle.std.proofs.Common.{◌≡◌, ℕ, List, [], ◌++◌, take, length, get_or, sym, ap, subst, ◌∙◌, arith}
use Rattle.std.specs.List.{filter_map}
use Rattle.std.specs.Option.{option_to_list}
use Rattle.std.specs.declared.option.Option.{Option}
use Rattle.rmt_granules.specs.Granules.{PartView}
use Rattle.rmt_model.specs.Content.{Row}
use Rattle.rmt_changes.specs.Changes.{entries_of}
use Rattle.rmt_query.specs.Answers.{matches, matching}
use Rattle.rmt_query.specs.ReadRows.{row_read}
use Rattle.rmt_query.proofs.MatchLemmas.{Others, none-before, all-before, append-none, row-none, row-one, outside, due-read}
use Rattle.rmt_query.proofs.matches.add_matching.Goals as goal

pub rows-init : goal.rows-init
rows-init c =
    let same : c.deref.result.now ≡ c.args.part.now.rows = c.deref.ensures ∙ c.data.ensures in
    let others = subst (Others c.args.schema.now.key c.args.filter.now c.in_ok-first.first c.in_ok-first.past) same c.in_ok-first.ensures.others in
    let none = none-before (matches c.args.filter.now) (row_read (entries_of c.args.pending.now) c.args.part.now.name) c.args.part.now.rows.rows c.in_ok-first.first
    (λ i row below e keeps. (outside c.keys_stay.ensures.keys c.args.schema.now c.args.pending.now c.args.part.now.name c.args.filter.now c.args.part.now.rows.rows c.in_ok-first.first c.in_ok-first.past c.requires.pending others i row below e keeps).0) in
    sym (ap (λ (l : List Row). c.args.rows.now.items ++ l) none ∙ append-none c.args.rows.now.items)

pub matching_row-requires : goal.matching_row-requires
matching_row-requires c =
    let same : c.deref.result.now ≡ c.args.part.now.rows = c.deref.ensures ∙ c.data.ensures in
    let long : length c.deref.result.now.rows ≡ length c.args.part.now.rows.rows = ap (λ (d : PartView). length d.rows) same in
    let bound = c.in_ok-first.ensures.bound in
    omega (arith, long, bound)

pub rows-preserved-in_default : goal.rows-preserved-in_default
rows-preserved-in_default c =
    let same : c.deref.result.now ≡ c.args.part.now.rows = c.deref.ensures ∙ c.data.ensures in
    let long : length c.deref.result.now.rows ≡ length c.args.part.now.rows.rows = ap (λ (d : PartView). length d.rows) same in
    let bound = c.in_ok-first.ensures.bound in
    row-none (matches c.args.filter.now) (row_read (entries_of c.args.pending.now) c.args.part.now.name) c.args.part.now.rows.rows c.rows.rows.items c.args.rows.now.items c.rows.i (omega (arith, long, bound)) c.rows.invariant
    (ap (λ (o : Option Row). option_to_list o) (sym c.in_default.is) ∙ (c.in_ok-row.ensures ∙ ap (λ (o : Option Row). matching c.args.filter.now (option_to_list o)) (due-read _ _ c.args.pending.now c.args.part.now.name _ (get_or c.args.part.now.rows.rows c.rows.i []) c.deref-in-rows.ensures.value c.in_ok-due.ensures c.name.ensures)))

pub rows-preserved : goal.rows-preserved
rows-preserved c =
    let same : c.deref.result.now ≡ c.args.part.now.rows = c.deref.ensures ∙ c.data.ensures in
    let long : length c.deref.result.now.rows ≡ length c.args.part.now.rows.rows = ap (λ (d : PartView). length d.rows) same in
    let bound = c.in_ok-first.ensures.bound in
    row-one (matches c.args.filter.now) (row_read (entries_of c.args.pending.now) c.args.part.now.name) c.args.part.now.rows.rows c.rows.rows.items c.args.rows.now.items c.push.new.self.items c.rows.i c.in-Some.row (omega (arith, long, bound)) c.rows.invariant
    (ap (λ (o : Option Row). option_to_list o) (sym c.in-Some.is) ∙ (c.in_ok-row.ensures ∙ ap (λ (o : Option Row). matching c.args.filter.now (option_to_list o)) (due-read _ _ c.args.pending.now c.args.part.now.name _ (get_or c.args.part.now.rows.rows c.rows.i []) c.deref-in-rows.ensures.value c.in_ok-due.ensures c.name.ensures))) c.in_ok-push.ensures.items

pub returns : goal.returns
returns c =
    let same : c.deref.result.now ≡ c.args.part.now.rows = c.deref.ensures ∙ c.data.ensures in
    let others = subst (Others c.args.schema.now.key c.args.filter.now c.in_ok-first.first c.in_ok-first.past) same c.in_ok-first.ensures.others in
    let end : c.rows.i ≡ c.in_ok-first.past = omega (arith, c.in_ok-first.ensures.order) in
    let all = all-before (matches c.args.filter.now) (row_read (entries_of c.args.pending.now) c.args.part.now.name) c.args.part.now.rows.rows c.in_ok-first.past
    (λ i row below e keeps. (outside c.keys_stay.ensures.keys c.args.schema.now c.args.pending.now c.args.part.now.name c.args.filter.now c.args.part.now.rows.rows c.in_ok-first.first c.in_ok-first.past c.requires.pending others i row below e keeps).1) in
    c.rows.invariant
    ∙ ap (λ (l : List Row). c.args.rows.now.items ++ l)
    (ap (λ (i : ℕ). matching c.args.filter.now (filter_map (row_read (entries_of c.args.pending.now) c.args.part.now.name) (take i c.args.part.now.rows.rows))) end ∙ all)
