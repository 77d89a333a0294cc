use Rattle.std.proofs.Common.{◌≡◌, ◌++◌, List, ℕ, ap, ◌∙◌}
use Rattle.sha2.specs.Sha256.{sha256}
use Rattle.rmt_format.specs.PartBytes.{head_bytes, data_bytes, part_body, part_bytes}
use Rattle.rmt_format.proofs.RangeLemmas.{fit-in_range}
use Rattle.rmt_format.proofs.part_bytes.encode.Goals as goal

pub returns-clause-ok : goal.returns-clause-ok
unfolding part_bytes part_body
returns-clause-ok c =
    let body : c.put_data.new.out.items ≡ part_body c.args.schema.now c.args.part.now = c.in_ok-put_data.ensures.ok ∙ ap (λ (l : List ℕ). l ++ data_bytes c.args.part.now) (c.in_ok-put_head.ensures ∙ ap (λ (l : List ℕ). l ++ head_bytes c.args.schema.now) c.new-out.ensures.items) in
    let digest : c.digest_of-digest.result ≡ sha256 (part_body c.args.schema.now c.args.part.now) = c.digest_of-digest.ensures ∙ ap sha256 (c.deref.ensures.value ∙ body) in
    c.in_ok-extend_from_slice.ensures.items ∙ cc

pub returns-clause-in_range : goal.returns-clause-in_range
returns-clause-in_range c = fit-in_range c.args.schema.now.columns c.args.part.now.rows c.requires.of_schema.fit c.in_ok-put_data.ensures.in_range
