-- How a fault is told on the next floor.
use Rattle.node_link.specs.declared.fault.ServeFault.{ServeFault}
use Rattle.node_link.specs.declared.fault.ServeFault.TheVariants as serves
use Rattle.party_seat.specs.declared.fault.NodeFault.{NodeFault}
use Rattle.party_seat.specs.declared.fault.NodeFault.TheVariants.{WrongKey, WrongLeaf, LinkFault, NoMemory}
use Rattle.party_seat.specs.declared.fault.SeatFault.{SeatFault}
use Rattle.party_seat.specs.declared.fault.SeatFault.TheVariants as seats

abbrev pub seat_fault_of : SeatFault → NodeFault
seat_fault_of seats.WrongKey = WrongKey
seat_fault_of seats.WrongLeaf = WrongLeaf
seat_fault_of seats.NoMemory = NoMemory

abbrev pub serve_fault_of : ServeFault → NodeFault
serve_fault_of serves.LinkFault = LinkFault
serve_fault_of serves.NoMemory = NoMemory
