use Rattle.std.proofs.Common.{◌∙◌, refl, sym, ap, subst}
use Rattle.rmt_values.specs.Rows.{Shape}
use Rattle.rmt_granules.specs.Granules.{PartView as Data}
use Rattle.rmt_format.specs.PartBytes.{AreInRange, HasPartBytes, part_bytes}
use Rattle.rmt_compact.proofs.SentLemmas.{part-has}
use Rattle.rmt_supply.proofs.holders.sent.Goals as goal

pub encode-requires : goal.encode-requires
encode-requires c =
    let part = c.args.part.now in
    subst (λ (x : Shape). HasPartBytes x c.deref.result.now) (sym (c.deref-2.ensures ∙ c.schema.ensures))
    (subst (λ (b : Data). HasPartBytes part.schema b) (sym (c.deref.ensures ∙ c.body.ensures.value)) (part-has part.schema part c.body.ensures.part refl c.requires))

pub refetched-requires : goal.refetched-requires
refetched-requires c =
    let part = c.args.part.now in
    let shape = c.deref-2.ensures ∙ c.schema.ensures in
    let body = c.deref.ensures ∙ c.body.ensures.value in
    record {
      has_bytes = part-has part.schema part c.body.ensures.part refl c.requires;
      in_range = subst (λ (b : Data). AreInRange b.rows) body c.in_ok-bytes.ensures.in_range;
      spelled = c.deref-3.ensures.value ∙ (c.in_ok-bytes.ensures.ok ∙ (ap (λ (x : Shape). part_bytes x c.deref.result.now) shape ∙ ap (part_bytes part.schema) body));
    }
