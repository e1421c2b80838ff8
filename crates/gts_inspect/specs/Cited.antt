-- What files of this crate and of those above cite of it, in one place, and what it cites of those below.
pub mod Below
pub use Rattle.gts_inspect.specs.Findings.{calls_itself, calls_too, covers, few_kept, findings, first, has_peer, in_order, input_twice, is_called, listens_too, low_port, names, names_all, names_one, no_circuit, no_port, no_rule, of_circuit, of_rule, of_top, output_twice, own_peer, peer_twice, rule_covered, rule_twice, same, same_ports, says_more, says_too, system_port, told, where_so}
pub use Rattle.gts_inspect.specs.Routing.{IsThere, circuits_from, is_reached, matching, places, reached, where_holds}
unfoldable pub use Below.*
