use Rattle.std.proofs.Common.{◌∙◌, List, map, ap, sym}
use Rattle.report_lines.specs.declared.line.OrderLine.{OrderLine}
use Rattle.report_check.specs.Seen.{above_last}
use Rattle.report_check.specs.Broken.{unordered}
use Rattle.report_check.proofs.OrdersKept.{no_orders, some_orders}
use Rattle.report_check.proofs.Unbroken.{no_orders_none}
use Rattle.report_check.proofs.checker.Checker.orders_broken.Goals as goal

pub returns-then-self-eq0 : goal.returns-then-self-eq0
returns-then-self-eq0 g c s shows = sym (no_orders_none s.orders (unordered s) (no_orders s.orders (sym shows.orders.next_is ∙ c.if-self-eq0.true)))

pub returns-else-self-eq0 : goal.returns-else-self-eq0
returns-else-self-eq0 g c s shows =
    c.unordered.ensures s shows
    ∙ sym (some_orders s.orders (unordered s)
    (λ none. c.if-self-eq0.false (shows.orders.next_is ∙ ap (λ (os : List OrderLine). above_last (map (λ x. x.served) os)) none)))
