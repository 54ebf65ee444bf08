-- Each range ends below the number of channels.
use Rattle.std.proofs.Common.{◌≤◌, ◌∙◌, sym, rules}
use Rattle.network_text.proofs.ListedRanges.{all_below}
use Rattle.network_text.proofs.reading.Reading.lacks_any.Goals as goal

pub returns-clause-there : goal.returns-clause-there
returns-clause-there g c =
    let few : c.len.result ≤ 65536 = search rules in
    all_below c.args.ranges.now c.len.result (sym c.are_below.ensures ∙ c.if-not-are_below.false) few
