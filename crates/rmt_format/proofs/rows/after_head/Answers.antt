use Rattle.std.proofs.Common.{◌≡◌, ◌++◌, List, ℕ, length, drop, sym, ap, ◌∙◌, None, refl}
use Rattle.std.proofs.lemmas.Bool.Decides.{Decides-eqb}
use Rattle.std.proofs.lemmas.List.{drop_at}
use Rattle.std.proofs.lemmas.Slice.Eq.{strip_prefix_is}
use Rattle.rmt_format.specs.PartBytes.{head_bytes}
use Rattle.rmt_format.proofs.rows.after_head.Goals as goal

pub returns-in-Some : goal.returns-in-Some
returns-in-Some c = λ rest is.
    let head : c.as_slice.result.now ≡ head_bytes c.args.schema.now = c.as_slice.ensures.value ∙ c.in_ok-put_head.ensures ∙ ap (λ (l : List ℕ). l ++ head_bytes c.args.schema.now) c.new-head.ensures.items in
    c.in-Some.ensures.cases.1 ∙ ap (λ (l : List ℕ). drop (length l) c.args.bytes.now) head ∙ ap (drop (length (head_bytes c.args.schema.now))) is
    ∙ drop_at (head_bytes c.args.schema.now) rest (length (head_bytes c.args.schema.now)) refl

pub returns : goal.returns
returns c = λ rest is.
    let head : c.as_slice.result.now ≡ head_bytes c.args.schema.now = c.as_slice.ensures.value ∙ c.in_ok-put_head.ensures ∙ ap (λ (l : List ℕ). l ++ head_bytes c.args.schema.now) c.new-head.ensures.items in
    strip_prefix_is Decides-eqb c.args.bytes.now c.as_slice.result.now None c.in-None.ensures.cases rest (is ∙ ap (λ (l : List ℕ). l ++ rest) (sym head))
