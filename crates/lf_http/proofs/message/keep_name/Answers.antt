use Rattle.std.proofs.Common.{sym, drop, IsUtf8, rules}
use Rattle.lf_http.proofs.Names.{utf8_named}
use Rattle.lf_http.proofs.message.keep_name.Goals as goal

pub unreachable-requires-in-Err : goal.unreachable-requires-in-Err
unreachable-requires-in-Err c =
    let text : IsUtf8 (drop 8 c.args.target.now) = utf8_named c.args.target.now c.requires.text (sym c.if-starts_with.ensures.value) in
    search (rules, text, c.in-Err.ensures.cases.0)
