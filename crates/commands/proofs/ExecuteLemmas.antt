-- Lemmas on what leads to an answer or to a fault.
use Rattle.std.proofs.Common.{◌≡◌, ℕ, true, List, Option, None, Some, subst, refl}
use Rattle.std.specs.Prelude.{IfSome}
use Rattle.commands.specs.Commands.{ComesOf, IsRefusedBy, IsShortFor, reads_input}
use Rattle.commands.specs.Devices.{IsOfReading, IsOwn}
use Rattle.whole_io.specs.declared.fault.DeviceFault.TheVariants.{ReadFault, TooLong}
use Rattle.commands.specs.declared.fault.Fault.{Fault}
use Rattle.commands.specs.declared.fault.Fault.TheVariants.{Device, OutOfMemory}
use Rattle.command_line.specs.declared.command.Command.{Command}
use Rattle.command_line.specs.declared.command.Command.TheVariants.{Make}
use Rattle.command_line.specs.declared.command.Shape.{Shape}

-- a fault of reading comes of what was read
pub reading_comes : (command : Command) (bytes : Option (List ℕ)) (fault : Fault) → reads_input command ≡ true → IsOfReading bytes fault → IfSome bytes (λ input. ComesOf command input fault)
reading_comes command None fault reads h = tt
reading_comes command (Some input) (Device TooLong) reads h = (reads, h)
reading_comes command (Some input) (Device ReadFault) reads h = reads
reading_comes command (Some input) OutOfMemory reads h = tt
reading_comes command (Some input) fault reads h = absurd h

-- a fault of the command's own comes of the input
own_comes : (command : Command) (input : List ℕ) (fault : Fault) → IsOwn fault → IsShortFor command input → IsRefusedBy command input fault → ComesOf command input fault
own_comes command input (Device fault) own short h = absurd own
own_comes command input OutOfMemory own short h = tt
own_comes command input fault own short h = (short, h)

-- what holds of the input that was read holds of the known bytes
of_known : (P : List ℕ → Type 0) (bytes : Option (List ℕ)) (input : List ℕ) → IfSome bytes (λ known. input ≡ known) → P input → IfSome bytes P
of_known P None input same h = tt
of_known P (Some known) input same h = subst P same h

-- so does what holds of a command's input, where one that is not read makes no difference
for_known : (P : Command → List ℕ → Type 0) (command : Command) (bytes : Option (List ℕ)) (input : List ℕ)
    → ((shape : Shape) (a b : List ℕ) → P (Make shape) a → P (Make shape) b)
    → (reads_input command ≡ true → IfSome bytes (λ known. input ≡ known)) → P command input → IfSome bytes (P command)
for_known P command None input idle same h = tt
for_known P (Make shape) (Some known) input idle same h = idle shape input known h
for_known P command (Some known) input idle same h = of_known (P command) (Some known) input (same refl) h

idle_fault : (fault : Fault) (shape : Shape) (a b : List ℕ) → IsOwn fault → ComesOf (Make shape) a fault → ComesOf (Make shape) b fault
idle_fault (Device fault) shape a b own h = absurd own
idle_fault OutOfMemory shape a b own h = tt
idle_fault fault shape a b own h = (λ reads. cc, h.1)

-- a fault of the command's own comes of the known bytes
pub own_comes_of_known : (command : Command) (bytes : Option (List ℕ)) (input : List ℕ) (fault : Fault) → (reads_input command ≡ true → IfSome bytes (λ known. input ≡ known))
    → IsOwn fault → IsShortFor command input → IsRefusedBy command input fault → IfSome bytes (λ known. ComesOf command known fault)
own_comes_of_known command bytes input fault same own short h =
    for_known (λ c i. ComesOf c i fault) command bytes input (λ shape a b. idle_fault fault shape a b own) same (own_comes command input fault own short h)
