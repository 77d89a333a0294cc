use Rattle.std.proofs.Common.{rules, ◌≡◌, ℕ, List, length, slice_get, get_or, sym, ap, ◌∙◌, subst, arith, take, drop}
use Rattle.std.proofs.Common.{Some, None}
use Rattle.std.proofs.lemmas.Option.{slice_get_past}
use Rattle.rmt_columns.specs.TextEnds.{texts_of, start_of}
use Rattle.rmt_columns.proofs.TextLemmas.{length-texts, text-at, end-within, start-before}
use Rattle.rmt_columns.proofs.texts.Texts.get.Goals as goal

pub returns-then-i-len : goal.returns-then-i-len
returns-then-i-len c =
    let n : c.len.result ≡ length c.self.inside.ends.items = search rules in
    let l = length-texts c.self.inside.bytes.items 0 c.self.inside.ends.items in
    subst (λ (v : List (List ℕ)). None ≡ slice_get v c.args.i) c.self.view_is
    (sym (slice_get_past (texts_of c.self.inside.bytes.items 0 c.self.inside.ends.items) c.args.i (omega (arith, l, n, c.if-i-len.true))))

pub split_at-requires : goal.split_at-requires
split_at-requires c =
    let n : c.len.result ≡ length c.self.inside.ends.items = search rules in
    let b : length c.as_slice.result.now ≡ length c.self.inside.bytes.items = ap length c.as_slice.ensures.value in
    let r = end-within c.self.inside.ends.items (length c.self.inside.bytes.items) c.args.i c.index.result.now c.self.invariant (omega (arith, n, c.if-i-len.false)) in
    omega (arith, r, b, c.index.ensures)

pub split_at-requires-2 : goal.split_at-requires-2
split_at-requires-2 c =
    let n : c.len.result ≡ length c.self.inside.ends.items = search rules in
    let s : c.start_of-start.result ≡ start_of c.self.inside.ends.items c.args.i = c.start_of-start.ensures ∙ ap (λ (l : List ℕ). start_of l c.args.i) c.deref.ensures.value in
    let r = start-before c.self.inside.ends.items (length c.self.inside.bytes.items) c.args.i c.index.result.now c.self.invariant (omega (arith, n, c.if-i-len.false)) in
    omega (arith, r, s, c.index.ensures, c.split_at.ensures.front_len)

pub returns : goal.returns
returns c =
    let n : c.len.result ≡ length c.self.inside.ends.items = search rules in
    let s : c.start_of-start.result ≡ start_of c.self.inside.ends.items c.args.i = c.start_of-start.ensures ∙ ap (λ (l : List ℕ). start_of l c.args.i) c.deref.ensures.value in
    let front : c.split_at.result.0.now ≡ take (get_or c.self.inside.ends.items c.args.i c.index.result.now) c.self.inside.bytes.items =
    c.split_at.ensures.front ∙ (ap (take c.index.result.now) c.as_slice.ensures.value ∙ ap (λ (k : ℕ). take k c.self.inside.bytes.items) c.index.ensures) in
    let back : c.split_at-2.result.1.now ≡ drop (start_of c.self.inside.ends.items c.args.i) (take (get_or c.self.inside.ends.items c.args.i c.index.result.now) c.self.inside.bytes.items) =
    c.split_at-2.ensures.back ∙ (ap (drop c.start_of-start.result) front ∙ ap (λ (k : ℕ). drop k (take (get_or c.self.inside.ends.items c.args.i c.index.result.now) c.self.inside.bytes.items)) s) in
    subst (λ (v : List (List ℕ)). Some c.split_at-2.result.1.now ≡ slice_get v c.args.i) c.self.view_is
    (ap (λ (l : List ℕ). Some l) back
    ∙ sym (text-at c.self.inside.bytes.items c.self.inside.ends.items c.args.i c.index.result.now (omega (arith, n, c.if-i-len.false))))
