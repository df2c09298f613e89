use Rattle.std.proofs.Common.{◌∷◌, codes, decimal, ap, ◌∙◌}
use Rattle.measures.specs.declared.printable.Fields.{Fields}
use Rattle.text.specs.Lines.{line_of}
use Rattle.quotes.specs.Quotes.{price_text, reply_text, value_fields}
use Rattle.quotes.proofs.quotes.quote.Goals as goal

pub returns-in-Ok : goal.returns-in-Ok
unfolding price_text
returns-in-Ok g c =
    c.line.ensures.holds ∙ c.price_line.ensures
    ∙ ap (λ (x : Fields). line_of (codes "price" ∷ decimal c.in-Ok.cost.used ∷ decimal c.in-Ok.cost.power ∷ value_fields x)) c.fields.ensures
    ∙ ap (reply_text (g.M.PrintableMeasure.shown c.args.measure.now)) c.in-Ok.ensures
