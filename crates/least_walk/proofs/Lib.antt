mod MarkedRows
mod Walking
mod TreeLaws
