-- Parts that are in a quorum, by what is compared of them.
use Rattle.std.proofs.Common.{◌≡◌, ◌∙◌, true, false, List, filter, refl, ap, sym, subst}
use Rattle.std.specs.List.{list_any}
use Rattle.std.specs.declared.option.Option.{Option}
use Rattle.std.specs.declared.option.Option.TheVariants.{Some}
use Rattle.rmt_names.specs.Names.{Name, covers}
use Rattle.rmt_model.specs.Quorum.{Quorum}
use Rattle.rmt_model.proofs.Drops.{some-same}
use Rattle.rmt_partset.specs.Snapshots.{NamedData, names_in}
use Rattle.rmt_reply.specs.declared.refusal.Refusal.TheVariants.{NotInQuorum}
use Rattle.rmt_statement_model.specs.Reads.{waiting_part}
use Rattle.rmt_sequential.proofs.KeptParts.{is_kept, names-kept, any-named}
use Rattle.rmt_readings.specs.QuorumParts.{AreInQuorum, LacksCover}

module _ (q : Quorum) (active kept : List NamedData) (waiting : Option Name) (w : waiting ≡ waiting_part q) (k : kept ≡ filter (is_kept waiting) active) where
  left : kept ≡ filter (is_kept (waiting_part q)) active
  left = k ∙ ap (λ (o : Option Name). filter (is_kept o) active) w

  pub one-covers : (last : Name) → q.last ≡ Some last → list_any (λ p. covers p.name last) kept ≡ true → AreInQuorum q active kept
  one-covers last e c = record {
    left = left;
    last = λ part l.
        let same : last ≡ part = some-same last part (sym e ∙ l) in
        subst (λ (a : Name). list_any (λ b. covers b a) (names_in kept) ≡ true) same (sym (any-named (λ b. covers b last) kept) ∙ c);
  }

  pub none-covers : (last : Name) → q.last ≡ Some last → list_any (λ p. covers p.name last) kept ≡ false → LacksCover q active (NotInQuorum last)
  none-covers last e c = record {
    part = last;
    last = e;
    uncovered = ap (λ (ns : List Name). list_any (λ b. covers b last) ns) (sym (ap names_in left ∙ names-kept (waiting_part q) active)) ∙ (sym (any-named (λ b. covers b last) kept) ∙ c);
    reply = refl;
  }
