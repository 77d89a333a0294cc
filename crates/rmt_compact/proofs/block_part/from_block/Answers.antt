use Rattle.std.proofs.Common.{◌≡◌, ◌∙◌, refl, ap, sym, subst, [], ◌∷◌, ◌++◌, List}
use Rattle.std.specs.Arc.{arc_value}
use Rattle.rmt_values.specs.Rows.{Shape, in_key_order}
use Rattle.rmt_entries.specs.Entries.{result_name}
use Rattle.rmt_row.specs.Token.{Token}
use Rattle.rmt_entries.specs.declared.entry.Entry.{Entry}
use Rattle.rmt_block.specs.Blocks.{BlockView}
use Rattle.rmt_granules.specs.Granules.{PartView as Data}
use Rattle.rmt_granules.specs.MadePart.{data_of}
use Rattle.rmt_model.specs.Content.{Row}
use Rattle.rmt_part.specs.Lineages.{AcceptedView, IsPart}
use Rattle.rmt_compact.proofs.NewPartLemmas.{block-part}
use Rattle.rmt_compact.proofs.block_part.from_block.Goals as goal

made-data : (a b : Shape) (xs ys : List Row) (d e : Data) → a ≡ b → xs ≡ ys → e ≡ data_of a (in_key_order a xs) → d ≡ e → d ≡ data_of b (in_key_order b ys)
made-data a b xs ys d e p q g h = h ∙ (g ∙ (ap (λ (x : Shape). data_of x (in_key_order x xs)) p ∙ ap (λ (l : List Row). data_of b (in_key_order b l)) q))

one : (start all : List AcceptedView) (a b : AcceptedView) → start ≡ [] → all ≡ start ++ a ∷ [] → a ≡ b → all ≡ b ∷ []
one start all a b e f g = f ∙ (ap (λ (l : List AcceptedView). l ++ a ∷ []) e ∙ ap (λ (x : AcceptedView). x ∷ []) g)

accepted : (get token : Token Entry) (x y : BlockView) → get ≡ token → x ≡ y → ◌≡◌ {A = AcceptedView} (record { get = get; block = x }) (record { get = token; block = y })
accepted get token x y e f = cc

pub of-requires : goal.of-requires
of-requires c =
    let shape = arc_value c.args.schema.now in
    let b = arc_value c.args.block in
    subst (λ (x : Shape). IsPart (record { schema = x; name = c.made_name-name.result; body = arc_value c.in_ok-body.body; made = c.args.made; blocks = c.push.new.self.items; mutations = arc_value c.in_ok-mutations.mutations })) (sym c.in_ok-schema.ensures)
    (block-part shape c.args.made b c.made_name-name.result (arc_value c.in_ok-body.body) c.push.new.self.items (arc_value c.in_ok-mutations.mutations) c.requires.get c.requires.fit
    (sym (ap result_name c.value.ensures) ∙ c.made_name-name.ensures)
    (made-data c.deref-2.result.now shape _ _ _ _ c.deref-2.ensures (c.rows.ensures.value ∙ ap (λ (x : BlockView). x.rows) c.deref.ensures) c.in_ok-data.ensures c.in_ok-body.ensures.ok)
    (one c.in_ok-blocks.blocks.items _ _ _ c.in_ok-blocks.ensures.items c.in_ok-push.ensures.items (c.new-2.ensures ∙ accepted _ _ _ _ c.in_ok-get.ensures refl))
    (c.in_ok-mutations.ensures.ok ∙ c.empty.ensures))
