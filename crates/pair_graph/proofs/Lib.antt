mod PairLanes
mod PairSteps
