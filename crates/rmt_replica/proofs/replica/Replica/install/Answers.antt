use Rattle.std.proofs.Common.{◌∙◌, ◌<◌, arith, length, sym, subst, ap, inr}
use Rattle.std.specs.Arc.{arc_value}
use Rattle.std.specs.Prelude.{IfSome}
use Rattle.std.specs.declared.option.Option.{Option}
use Rattle.rmt_names.specs.Names.{Name, Covers}
use Rattle.rmt_entries.specs.declared.entry.Entry.{Entry}
use Rattle.rmt_row.specs.Token.{Token}
use Rattle.rmt_part.specs.Lineages.{PartValue, IsPart}
use Rattle.rmt_part.proofs.PartLaws.{of-table-within}
use Rattle.rmt_replica.specs.Replicas.{ReplicaView}
use Rattle.rmt_replica.specs.Answers.{IsOfTable}
use Rattle.rmt_replica.proofs.replica.Replica.install.Goals as goal

pub returns-clause-answer : goal.returns-clause-answer
returns-clause-answer c =
    let name = c.name.ensures.name ∙ ap (λ (p : PartValue). p.name) c.deref-2.ensures in
    let over = let t = c.if-not-covers.false in c.covers.ensures.fact.0 (cc) in
    let place = c.place.ensures ∙ ap (λ (t : Token Entry). t.place) (c.made.ensures ∙ ap (λ (p : PartValue). p.made) c.deref.ensures) in
    let len = c.len.ensures.len ∙ ap (λ (r : ReplicaView). length r.log) c.self.view_is in
    let below = c.if-place-len.false in (
      c.requires.up,
      c.requires.waits,
      sym c.is_stopped.ensures ∙ c.if-is_stopped.false,
      inr (
        c.args.name,
        c.requires.makes,
        record {
          part = arc_value c.in-Some.part;
          given = sym c.in-Some.ensures;
          covers = subst (λ (n : Name). Covers n c.args.name) name over;
          within = omega (arith, place, len, below);
        },
      ),
    )

pub put-requires : goal.put-requires
put-requires c =
    let part = arc_value c.in-Some.part in
    let name = c.name.ensures.name ∙ ap (λ (p : PartValue). p.name) c.deref-2.ensures in
    let over = let t = c.if-not-covers.false in c.covers.ensures.fact.0 (cc) in
    let place = c.place.ensures ∙ ap (λ (t : Token Entry). t.place) (c.made.ensures ∙ ap (λ (p : PartValue). p.made) c.deref.ensures) in
    let len = c.len.ensures.len ∙ ap (λ (r : ReplicaView). length r.log) c.self.view_is in
    let below = c.if-place-len.false in
    let within : part.made.place < length c.args.self.now.log = omega (arith, place, len, below) in
    let is_part = subst IsPart c.deref-2.ensures c.name.ensures.part in
    let table = subst (λ (o : Option PartValue). IfSome o (IsOfTable c.args.self.now)) (sym c.in-Some.ensures) c.requires.of_table in
    record {
      waits = c.requires.waits;
      makes = c.requires.makes;
      covers = subst (λ (n : Name). Covers n c.args.name) name over;
      made = record { is_part = is_part; of_schema = table.of_schema; of_log = of-table-within part c.args.self.now.log is_part table.agrees within };
    }
