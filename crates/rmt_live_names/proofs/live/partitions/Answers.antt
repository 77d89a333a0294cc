use Rattle.std.proofs.Common.{◌≡◌, ap, sym, ◌∙◌, nat_eq, rules, filter, ℕ}
use Rattle.std.proofs.lemmas.Fn.{filter_same}
use Rattle.std.proofs.lemmas.List.Filters.{dedup_is}
use Rattle.std.specs.List.{dedup}
use Rattle.std.specs.declared.option.Option.{Option}
use Rattle.rmt_names.specs.Names.{rank}
use Rattle.rmt_model.specs.Live.{live}
use Rattle.rmt_statement_model.specs.Optimizes.{partitions_of, partitions_asked}
use Rattle.rmt_live_names.proofs.PartitionLists.{deduped}
use Rattle.rmt_live_names.proofs.live.partitions.Goals as goal
use Rattle.rmt_live_names.proofs.live.partitions.Goals.{in-Some, in_default}

pub returns : goal.returns
returns c =
    let all : c.dedup.new.self.items ≡ partitions_of (live c.args.copy.now.log) =
    dedup_is _ _ _ c.dedup.ensures.filtered ∙ (ap (dedup _) c.in_ok-all.ensures ∙ (deduped c.live.result.now ∙ ap partitions_of c.live.ensures)) in
    elim c.match-asked.branch [
      | in-Some w ↦
          ap (λ v. v.items) w.all-is
          ∙ (filter_same _ (λ (q : Option ℕ). nat_eq (rank q) (rank w.in-Some.partition)) _ (λ x b f' k. search rules) _ _ w.retain.ensures.filtered
          ∙ (ap (filter (λ (q : Option ℕ). nat_eq (rank q) (rank w.in-Some.partition))) all
          ∙ ap (λ (a : Option (Option ℕ)). partitions_asked a c.args.copy.now.log) (sym w.in-Some.is)))
      | in_default w ↦ ap (λ v. v.items) w.all-is ∙ (all ∙ ap (λ (a : Option (Option ℕ)). partitions_asked a c.args.copy.now.log) (sym w.in_default.is))
    ]
