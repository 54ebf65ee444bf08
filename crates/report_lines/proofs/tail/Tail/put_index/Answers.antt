use Rattle.std.proofs.Common.{◌≤◌, length, arith, ap, rules, decimal, length-append}
use Rattle.std.proofs.lemmas.Fmt.{length-decimal-le}
use Rattle.report_lines.proofs.tail.Tail.put_index.Goals as goal

pub put_digits-requires : goal.put_digits-requires
put_digits-requires c =
    let short : length (decimal c.args.n) ≤ 10 = search (rules, length-decimal-le 10) in
    omega (arith, short, c.requires)

pub put_byte-requires-clause-room : goal.put_byte-requires-clause-room
put_byte-requires-clause-room c =
    let short : length (decimal c.args.n) ≤ 10 = search (rules, length-decimal-le 10) in
    omega (arith, short, c.requires, ap length c.put_digits.ensures, length-append (decimal c.args.n) c.args.self.now)

pub returns-clause-len : goal.returns-clause-len
returns-clause-len c =
    let short : length (decimal c.args.n) ≤ 10 = search (rules, length-decimal-le 10) in
    omega (arith, short, c.requires, ap length c.put_byte.ensures, ap length c.put_digits.ensures, length-append (decimal c.args.n) c.args.self.now)
