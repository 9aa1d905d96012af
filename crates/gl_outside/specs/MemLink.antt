-- The record that a link in memory keeps.
use Rattle.std.specs.Prelude.{List, map, drop, true, false}
use Rattle.gl_outside.specs.Link as link
use Rattle.gl_outside.specs.declared.mem_link.Incoming.{Incoming}
use Rattle.gl_outside.specs.declared.mem_link.Incoming.TheVariants as given
use Rattle.gl_outside.specs.declared.mem_link.SureLink.{SureLink}
use Rattle.gl_outside.specs.declared.mem_link.Traffic.{Traffic}
use Rattle.gl_outside.specs.declared.mem_link.Traffic.TheVariants.{Came, Ticked, Sent, Lost}

abbrev pub arrival_of : Incoming → link.Arrival
arrival_of (given.Bytes conn bytes) = link.Bytes conn bytes.now
arrival_of given.Tick = link.Tick

abbrev pub exchange_of : Traffic → link.Exchange
exchange_of (Came conn bytes) = link.Gave (link.Bytes conn bytes.items)
exchange_of Ticked = link.Gave link.Tick
exchange_of (Sent conn frame) = link.Sent true conn frame.items
exchange_of (Lost conn frame) = link.Sent false conn frame.items

-- What came and was sent over it, and what is still to come.
abbrev pub link_past : SureLink → List link.Exchange
link_past sure = map exchange_of sure.past.items

abbrev pub link_coming : SureLink → List link.Arrival
link_coming sure = map arrival_of (drop sure.done sure.all.now)
