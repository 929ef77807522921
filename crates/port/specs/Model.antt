-- A port in the rules' terms.
use Rattle.rules.specs.Port.{Port as Rules}
use Rattle.port.specs.declared.Port.{Port}
use Rattle.port.specs.Held.{sender_of}
use Rattle.port.specs.Waiting.{receiver_of, places_in}

abbrev pub port_of : Port → Rules
port_of p = record { sender = sender_of p.sending; receiver = receiver_of p.receiving; places = places_in p.receiving }
