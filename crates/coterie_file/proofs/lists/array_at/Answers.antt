use Rattle.toml.proofs.Views.{table_get}
use Rattle.coterie_file.proofs.lists.array_at.Goals as goal

pub returns-in-Some-as_array : goal.returns-in-Some-as_array
returns-in-Some-as_array c =
    let found = table_get c.get.result c.args.key.now c.args.table.now.entries c.get.ensures.value in
    let array = rw c.in-Some-as_array.is at c.as_array.ensures in
    rw (c.as_slice.ensures.value, ← rw c.in-Some.is at found) array

pub returns-in-None-as_array : goal.returns-in-None-as_array
returns-in-None-as_array c =
    let found = table_get c.get.result c.args.key.now c.args.table.now.entries c.get.ensures.value in
    let array = rw c.in-None-as_array.is at c.as_array.ensures in
    rw (← rw c.in-Some.is at found) array

pub returns-in-None : goal.returns-in-None
returns-in-None c =
    let found = table_get c.get.result c.args.key.now c.args.table.now.entries c.get.ensures.value in
    rw (← rw c.in-None.is at found)
