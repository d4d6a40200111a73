use Rattle.std.proofs.Common.{◌≡◌, ◌∙◌, ◌++◌, ◌∷◌, [], false, ap, subst, IfSome}
use Rattle.command_line.specs.PortTexts.{IsRead, is_port, port_text}
use Rattle.command_line.proofs.nodes.one_port.Goals as goal

pub returns : goal.returns
returns c =
    let word = c.args.word.now in
    let read = subst (IsRead port_text (is_port word) word) c.in-Some.is c.in_ok-port.ensures.read in
    let shut = subst (λ o. IfSome o (λ p. p.is_open ≡ false)) c.in-Some.is c.in_ok-port.ensures.closed in (
      read.0,
      record {
        port = c.in-Some.port;
        ports_are = c.in_ok-push.ensures.items ∙ ap (λ ports. ports ++ c.in-Some.port ∷ []) c.new-ports.ensures.items;
        word_is = read.1;
        closed = shut;
      },
    )
