-- What is seen of a cluster: the states that it shows, and itself.
-- No public source: this program's own.
use Rattle.std.specs.Prelude.{false, length, List}
use Rattle.std.specs.declared.option.Option.TheVariants.{None}
use Rattle.std.proofs.Common.{ap, refl}
use Rattle.rmt_entries.specs.declared.entry.Entry.{Entry}
use Rattle.rmt_model.specs.Lawful.{mutation_count}
use Rattle.rmt_events.specs.Clusters.{Cluster}
use Rattle.rmt_statement_model.specs.Shows.{Shows, HoldsNone, fetching_of, ups}
use Rattle.rmt_acting.specs.Acting.{Sight}

-- what is seen of a cluster, beside which no workers run
abbrev pub seen_of : Cluster → Sight false
seen_of s = record {
  shows = Shows s;
  shape = s.table.schema;
  count = length s.replicas;
  ups = ups s;
  fetching = fetching_of s;
  mutations = mutation_count s.table.log;
  free = HoldsNone s;
  cluster = s;
  place = 0;
  others = λ k. None;
  schema-shown = λ t h. h.table.schema;
  fetching-shown = λ t h. h.table.fetching;
  mutations-shown = λ t h. ap (λ (l : List Entry). mutation_count l) h.table.log;
  cluster-shape = λ _. refl;
}
