use Rattle.gl_system.proofs.tcp_link.TcpLinkLink.TheImpl.Goals as goal

-- The link isn't honest, so nothing is told of what came and was sent.

pub next-tells : goal.next-tells
next-tells g c = record {
  past = λ h. cc;
  coming = λ h. cc;
  end = λ h. cc;
  kept_end = c.ensures.kept_end;
  calls = c.ensures.calls;
  failed = c.ensures.failed;
  quiet = c.ensures.quiet;
  never_falls = c.ensures.never_falls;
  send_faults = c.ensures.send_faults;
}

pub send-tells : goal.send-tells
send-tells g c = record {
  whole = c.ensures.whole;
  past = λ h. cc;
  inward = cc;
  failed = c.ensures.failed;
  quiet = c.ensures.quiet;
  never_falls = c.ensures.never_falls;
}
