use Rattle.std.proofs.Common.{◌≡◌, ◌<◌, ◌∙◌, None, length, arith, refl, sym}
use Rattle.report_check.specs.Good.{AllowedOrder}
use Rattle.report_check.specs.Broken.{order_broken}
use Rattle.report_check.specs.Shows.{bank_of}
use Rattle.report_check.proofs.Banks.{bank_inside}
use Rattle.report_check.proofs.OrderRules.{order_kept}
use Rattle.report_check.proofs.Orders.{order_shown}
use Rattle.report_check.proofs.checker.Checker.take_order.Goals as goal

pub returns : goal.returns
returns g c s shows =
    let none : order_broken s c.args.order.now ≡ None = cc (c.order_broken.ensures s shows) in
    let allowed : AllowedOrder s c.args.order.now = order_kept s c.args.order.now none in
    let there : c.args.order.now.place < length (bank_of c.args.self.now.banks.items c.args.order.now.bank) =
    omega (arith, allowed.next.there, shows.entries.sized c.args.order.now.bank) in
    let tile : c.args.order.now.bank < length c.args.self.now.banks.items = bank_inside c.args.self.now.banks.items c.args.order.now.bank _ there in
    let inside : c.args.order.now.bank < length c.args.self.now.ordered.items =
    omega (arith, tile, c.args.self.now.banks.ok, c.args.self.now.ordered.ok, c.args.self.now.banks_sized, c.args.self.now.ordered_sized) in (
      none,
      record {
        section = refl;
        version = shows.version;
        tiles = shows.tiles;
        words = shows.words;
        memory = shows.memory;
        next_init = shows.next_init;
        entries = shows.entries;
        next_answer = shows.next_answer;
        next_word = shows.next_word;
        orders = order_shown _ _ _ _ _ _ c.args.order.now _ (omega arith) (cc c.write_at.ensures.written) shows.orders inside
            (shows.orders.at_bank c.args.order.now.bank ∙ sym allowed.next.next)
            (λ other low. c.mark_events.ensures.named other (omega (arith, low, c.args.self.now.used_sized)));
        unanswered = λ is. absurd (omega (arith, is));
        told = λ is. allowed.told;
      },
    )
