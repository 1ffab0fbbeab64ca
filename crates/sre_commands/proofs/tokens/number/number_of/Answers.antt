use Rattle.std.specs.Str.{IsUtf8}
use Rattle.std.specs.Fmt.{decimal}
use Rattle.std.proofs.lemmas.Bool.{both_ways}
use Rattle.std.proofs.lemmas.Fmt.{IsAscii-decimal}
use Rattle.std.proofs.lemmas.Str.{IsUtf8-from_ascii}
use Rattle.sre_commands.specs.Tokens.Number.{BeginsAsDecimal}
use Rattle.sre_commands.proofs.DecimalLemmas.{decimal_begins, parsed_found, parsed_none}
use Rattle.sre_commands.proofs.tokens.number.number_of.Goals as goal

pub returns-then-not-begins_as_decimal-clause-none : goal.returns-then-not-begins_as_decimal-clause-none
returns-then-not-begins_as_decimal-clause-none c = λ n small e.
    let begins : BeginsAsDecimal c.args.bytes.now = rw e (decimal_begins n small) in
    both_ways c.begins_as_decimal.result c.if-not-begins_as_decimal.true (c.begins_as_decimal.ensures.1 begins)

pub returns-in_default-clause-none : goal.returns-in_default-clause-none
returns-in_default-clause-none c = λ n small e.
    let text : IsUtf8 c.args.bytes.now = rw e (IsUtf8-from_ascii (decimal n) (IsAscii-decimal n small)) in
    c.in_default.ensures.cases.0 text

pub returns-clause-found : goal.returns-clause-found
returns-clause-found c =
    let begins = c.begins_as_decimal.ensures.0 c.if-not-begins_as_decimal.false in
    let parses = rw c.in-Ok.ensures.cases.0 at c.parse.ensures.value.0 in
    rw c.ok.ensures.value (parsed_found c.args.bytes.now c.parse.result begins parses)

pub returns-clause-none : goal.returns-clause-none
returns-clause-none c =
    let parses = rw c.in-Ok.ensures.cases.0 at c.parse.ensures.value.0 in
    rw c.ok.ensures.value (parsed_none c.args.bytes.now c.parse.result parses)
