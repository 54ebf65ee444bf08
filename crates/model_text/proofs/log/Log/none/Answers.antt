use Rattle.model_text.specs.InsideRows.{rows_now}
use Rattle.model_text.proofs.Growing.{nothing_is}
use Rattle.model_text.proofs.log.Log.none.Goals as goal

pub returns : goal.returns
returns g c =
    nothing_is 4096 c.none.result c.new.result.entries c.new-2.result.items (rows_now c.in_ok-rows.rows) (rows_now c.in_ok-orders.orders)
    c.new-3.result.items c.new-4.result.entries c.new-5.result.entries c.new-6.result.items c.new-7.result.entries c.none.ensures c.new.ensures.empty c.new-2.ensures.items
    c.in_ok-rows.ensures c.in_ok-orders.ensures c.new-3.ensures.items c.new-4.ensures.empty c.new-5.ensures.empty c.new-6.ensures.items
    c.new-7.ensures.empty
