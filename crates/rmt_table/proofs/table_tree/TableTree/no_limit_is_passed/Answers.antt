use Rattle.std.proofs.Common.{ℕ, ◌≤◌, length, subst}
use Rattle.std.specs.declared.option.Option.{Option}
use Rattle.rmt_model.specs.Words.{Has}
use Rattle.rmt_model.specs.Lawful.{mutation_count}
use Rattle.rmt_model.specs.EntryLimits.{client_count, worker_count}
use Rattle.rmt_table_model.specs.Held.{Held, table_of}
use Rattle.rmt_table.proofs.SoundRanges.{sound-length}
use Rattle.rmt_table.specs.contracts.table_tree.TableTree.{the_view}
use Rattle.rmt_table.proofs.table_tree.TableTree.no_limit_is_passed.Goals as goal

pub returns : goal.returns
returns c =
    let w = c.self.invariant.held.sound.within in
    record {
      partitions = subst (λ (h : Held). length h.next ≤ 1024) c.self.view_is w.partitions;
      numbers = subst (λ (h : Held). (p : Option ℕ) (next : ℕ) → Has h.next (p, next) → next ≤ 65536) c.self.view_is w.numbers;
      entries = subst (λ (h : Held). length h.log ≤ 65536) c.self.view_is (sound-length (table_of (the_view c.self.inside)) c.self.invariant.held.sound);
      clients = subst (λ (h : Held). client_count h.log ≤ 32768) c.self.view_is w.client_entries;
      workers = subst (λ (h : Held). worker_count h.log ≤ 32768) c.self.view_is w.worker_entries;
      mutations = subst (λ (h : Held). mutation_count h.log ≤ 1024) c.self.view_is w.mutations;
      values = subst (λ (h : Held). h.values ≤ 8388608) c.self.view_is w.values;
      replicas = subst (λ (h : Held). length h.sessions ≤ 8) c.self.view_is c.self.invariant.held.few;
    }
